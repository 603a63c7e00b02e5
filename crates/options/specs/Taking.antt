-- What a word does to the words before it.
use Rattle.std.specs.Prelude.{ℕ, Bool, true, cond, List, Some, None, Ok, Err, Option, Result, is_some, slice_index_or, slice_set}
use Rattle.options.specs.declared.setting.Setting.{Setting}
use Rattle.options.specs.declared.setting.Setting.TheVariants.{Sheet, Capture}
use Rattle.options.specs.declared.setting.Word.{Word}
use Rattle.options.specs.declared.setting.Word.TheVariants.{Names, Raises, Unknown, Plain}
use Rattle.options.specs.declared.fault.OptionFault.{OptionFault}
use Rattle.options.specs.declared.fault.OptionFault.TheVariants as faults
use Rattle.options.specs.Words.{setting_place, flag_place}

-- the place of a setting's value, where it is given
abbrev pub place_of : List (Option ℕ) → Setting → Option ℕ
place_of given s = slice_index_or given (setting_place s) None

abbrev pub is_given : List (Option ℕ) → Setting → Bool
is_given given s = is_some (place_of given s)

-- the first word that names nothing is the sheet, the second the capture, and there is no third
abbrev pub plain_setting : List (Option ℕ) → Option Setting
plain_setting given = cond (is_given given Sheet) (cond (is_given given Capture) None (Some Capture)) (Some Sheet)

-- whether a word is refused: a value never is
abbrev pub refused_at : List (Option ℕ) → ℕ → Word → Result (Unit {0}) OptionFault
refused_at given place (Names s) = cond (is_given given s) (Err (faults.Twice place)) (Ok tt)
refused_at given place (Raises f) = Ok tt
refused_at given place Unknown = Err (faults.Unknown place)
refused_at given place Plain = cond (is_given given Sheet) (cond (is_given given Capture) (Err (faults.Extra place)) (Ok tt)) (Ok tt)

abbrev pub word_answer : List (Option ℕ) → Option Setting → ℕ → Word → Result (Unit {0}) OptionFault
word_answer given (Some s) place w = Ok tt
word_answer given None place w = refused_at given place w

abbrev pub given_plain : List (Option ℕ) → Option Setting → ℕ → List (Option ℕ)
given_plain given None place = given
given_plain given (Some s) place = slice_set given (setting_place s) (Some place)

abbrev pub given_at : List (Option ℕ) → ℕ → Word → List (Option ℕ)
given_at given place (Names s) = given
given_at given place (Raises f) = given
given_at given place Unknown = given
given_at given place Plain = given_plain given (plain_setting given) place

-- the places of the values behind a word
abbrev pub given_after : List (Option ℕ) → Option Setting → ℕ → Word → List (Option ℕ)
given_after given (Some s) place w = slice_set given (setting_place s) (Some place)
given_after given None place w = given_at given place w

abbrev pub raised_at : List Bool → Word → List Bool
raised_at raised (Names s) = raised
raised_at raised (Raises f) = slice_set raised (flag_place f) true
raised_at raised Unknown = raised
raised_at raised Plain = raised

abbrev pub raised_after : List Bool → Option Setting → Word → List Bool
raised_after raised (Some s) w = raised
raised_after raised None w = raised_at raised w

abbrev pub awaited_at : List (Option ℕ) → Word → Option Setting
awaited_at given (Names s) = cond (is_given given s) None (Some s)
awaited_at given (Raises f) = None
awaited_at given Unknown = None
awaited_at given Plain = None

abbrev pub awaited_after : List (Option ℕ) → Option Setting → Word → Option Setting
awaited_after given (Some s) w = None
awaited_after given None w = awaited_at given w

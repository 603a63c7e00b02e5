-- The words of a command line: what each stands for, and its place among the settings and flags.
use Rattle.std.specs.Prelude.{ℕ, cond, List, [], ◌∷◌, take, codes, Option}
use Rattle.std.specs.Option.{option_map_or}
use Rattle.std.specs.Str.{bytes_eq}
use Rattle.commands.specs.Tables.{lookup}
use Rattle.options.specs.declared.setting.Setting.{Setting}
use Rattle.options.specs.declared.setting.Setting.TheVariants.{Sheet, Capture, Channel, Version, Incremental, Snapshot, Watch, Depth, Out, Coverage}
use Rattle.options.specs.declared.setting.Flag.{Flag}
use Rattle.options.specs.declared.setting.Flag.TheVariants.{Panel, Progress, Help}
use Rattle.options.specs.declared.setting.Word.{Word}
use Rattle.options.specs.declared.setting.Word.TheVariants.{Names, Raises, Unknown, Plain}

abbrev pub setting_place : Setting → ℕ
setting_place Sheet = 0
setting_place Capture = 1
setting_place Channel = 2
setting_place Version = 3
setting_place Incremental = 4
setting_place Snapshot = 5
setting_place Watch = 6
setting_place Depth = 7
setting_place Out = 8
setting_place Coverage = 9

abbrev pub flag_place : Flag → ℕ
flag_place Panel = 0
flag_place Progress = 1
flag_place Help = 2

-- the words that name settings
abbrev pub settings : List (List ℕ × Setting)
settings =
    (codes "--channel", Channel) ∷ (codes "--version", Version) ∷ (codes "--incremental", Incremental) ∷ (codes "--snapshot", Snapshot)
    ∷ (codes "--watch", Watch) ∷ (codes "--depth", Depth) ∷ (codes "--out", Out) ∷ (codes "--coverage", Coverage) ∷ []

-- the setting that a word names
abbrev pub setting_of : List ℕ → Option Setting
setting_of = lookup settings

-- the flag that a word raises
abbrev pub flag_of : List ℕ → Option Flag
flag_of = lookup ((codes "--panel", Panel) ∷ (codes "--progress", Progress) ∷ (codes "--help", Help) ∷ (codes "-h", Help) ∷ [])

-- a word that begins with two dashes names an option
abbrev pub dashed : List ℕ → Word
dashed word = cond (bytes_eq (take 2 word) (codes "--")) Unknown Plain

abbrev pub word_of : List ℕ → Word
word_of word = option_map_or Names (setting_of word) (option_map_or Raises (flag_of word) (dashed word))

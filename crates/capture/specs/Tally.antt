-- How the records of a file are counted.
use Rattle.std.specs.Prelude.{ℕ, ◌+◌, ◌-◌, ◌^◌, min, List, [], ◌∷◌, Some, None, Ok, Err, Result}
use Rattle.capture.specs.declared.fault.CaptureFault.{CaptureFault}
use Rattle.capture.specs.declared.tally.Tally.{Tally}
use Rattle.capture.specs.Held.{Held, datagram, cut, fragment, no_udp}

abbrev pub nothing : Tally
nothing = record { datagrams = 0; cut = 0; fragments = 0; other = 0; fault = None }

-- one more, up to the largest count
abbrev pub one_more : ℕ → ℕ
one_more n = min (n + 1) (2 ^ 64 - 1)

abbrev pub noted : Tally → Held → Tally
noted t (datagram time address port payload) =
    record { datagrams = one_more t.datagrams; cut = t.cut; fragments = t.fragments; other = t.other; fault = t.fault }
noted t cut = record { datagrams = t.datagrams; cut = one_more t.cut; fragments = t.fragments; other = t.other; fault = t.fault }
noted t fragment =
    record { datagrams = t.datagrams; cut = t.cut; fragments = one_more t.fragments; other = t.other; fault = t.fault }
noted t no_udp =
    record { datagrams = t.datagrams; cut = t.cut; fragments = t.fragments; other = one_more t.other; fault = t.fault }

abbrev pub ended : Tally → CaptureFault → Tally
ended t e = record { datagrams = t.datagrams; cut = t.cut; fragments = t.fragments; other = t.other; fault = Some e }

abbrev pub tallied : Tally → List (Result Held CaptureFault) → Tally
tallied t [] = t
tallied t (Ok held ∷ more) = tallied (noted t held) more
tallied t (Err e ∷ more) = tallied (ended t e) more

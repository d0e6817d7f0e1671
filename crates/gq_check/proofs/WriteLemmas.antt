-- What a sink was sent.
use Rattle.std.proofs.Common.{◌≡◌, ℕ, Bool, true, false, not, List, Option, Result, Ok, Err, is_ok, subst}
use Rattle.std.specs.Io.KnownBytes.{Appends}
use Rattle.std.specs.Prelude.{OnOk, OnErr}
use Rattle.gq_rpc.specs.Devices.{Sent}
use Rattle.gq_rpc.specs.declared.devices.SinkFailed.{SinkFailed}
use Rattle.gq_check.specs.Checks.{Wrote, WroteInPart, Tells, in_full, in_part}

works : (b : Bool) → true ≡ not b → b ≡ false
works true h = absurd (cc)
works false h = cc

fails : (b : Bool) → false ≡ not b → b ≡ true
fails true h = cc
fails false h = absurd (cc)

-- all of the bytes
pub wrote : (held held' : Option (List ℕ)) (failed : Bool) (bytes shown : List ℕ) → shown ≡ bytes → true ≡ not failed → Appends held held' shown → Wrote held (record { held = held'; failed = failed }) bytes
wrote held held' failed bytes shown is flag h = record { works = works failed flag; written = subst (Appends held held') is h }

-- a front of them
pub wrote_in_part : (held held' : Option (List ℕ)) (failed : Bool) (bytes shown : List ℕ) → shown ≡ bytes → false ≡ not failed → Sent held held' shown → WroteInPart held (record { held = held'; failed = failed }) bytes
wrote_in_part held held' failed bytes shown is flag h = record { fails = fails failed flag; sent = subst (Sent held held') is h }

-- one or the other
pub tells : (r : Result (Unit {0}) SinkFailed) (held held' : Option (List ℕ)) (failed : Bool) (bytes shown : List ℕ) → shown ≡ bytes → is_ok r ≡ not failed → OnOk r (Appends held held' shown) → OnErr r (Sent held held' shown)
    → Tells held (record { held = held'; failed = failed }) bytes
tells (Ok u) held held' failed bytes shown is flag ok err = in_full (wrote held held' failed bytes shown is flag ok)
tells (Err e) held held' failed bytes shown is flag ok err = in_part (wrote_in_part held held' failed bytes shown is flag err)

-- A message that was read is in bounds.
use Rattle.std.proofs.Common.{◌≡◌, ℕ, List, Ok, Err, Result, IfOk, sym}
use Rattle.codes.specs.declared.refusal.Refusal.{Refusal}
use Rattle.nas.specs.declared.uplink.Uplink.{Uplink}
use Rattle.nas.specs.Uplinks.{read}
use Rattle.nas.specs.Views.{answer, decoded}
use Rattle.nas.proofs.Bounds.{payload_some, payload_few, session_in_range}
use Rattle.router.specs.Receiving.{Fitting}

pub fitting : (xs : List ℕ) (r : Result Uplink Refusal) → answer r ≡ read xs → IfOk r Fitting
fitting xs (Err e) h = tt
fitting xs (Ok u) h = record {
  some = payload_some xs (decoded u) (sym h);
  few = payload_few xs (decoded u) (sym h);
  session = session_in_range xs (decoded u) (sym h);
}

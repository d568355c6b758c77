-- The ten cases, by computation.
use Rattle.std.proofs.Common.{◌≡◌, ℕ, true, [], Some, None, Option, sym, refl, ap}
use Rattle.std.proofs.lemmas.Bool.{eqb-true, false≢true}
use Rattle.directories.specs.Choices.{Chosen}
use Rattle.directories.specs.Lines.{lines_serve, takes_first}
use Rattle.nas.specs.Uplinks.{walk}
use Rattle.verdicts.specs.Laws.{answer_of}
use Rattle.verdicts.specs.Rules as given
use Rattle.accounts.specs.TenCases.{TenCases, lines, common}

first_line : (m : Option ℕ) → Chosen true (lines_serve lines common.slice common.dnn) (takes_first lines common.slice common.dnn) (answer_of true m) → m ≡ Some 7
unfolding takes_first
first_line None h = absurd (false≢true (sym (h.1 7)))
first_line (Some m) h = ap Some (sym (eqb-true 7 m h.2))

no_line : (m : Option ℕ) → Chosen true (lines_serve [] common.slice common.dnn) (takes_first [] common.slice common.dnn) (answer_of true m) → m ≡ None
no_line None h = refl
no_line (Some m) h = absurd (false≢true h.1)

pub cases : TenCases
unfolding walk given.ruling_with given.awaits_with_emergency given.congestion given.held_off given.at_limit given.barred given.kept_outcome given.known_smf given.emergency_smf_of
cases = record {
  list_chooses = first_line;
  first = refl;
  first_contexts = refl;
  empty_list_chooses = no_line;
  unserved = refl;
  closed = λ serves. refl;
  twice = refl;
  failed_return = refl;
  failed_contexts = refl;
  again = refl;
  no_request_type = refl;
  congested = refl;
  emergency_context = refl;
  emergency_answer = refl;
  other_answer = refl;
  other_session = refl;
  at_limit = refl;
}

-- What holds of every store holds of rows. It stands here, since the proof of a law may not name proofs/.
use Rattle.std.proofs.Common.{◌≤◌, List, length}
use Rattle.std.proofs.lemmas.Bool.{and_parts, and_from, or_left, or_right, lt-ltb}
use Rattle.tables.specs.Rows.{Apart}
use Rattle.stores.specs.Contexts.{pair_fits}
use Rattle.stores.specs.Stores.{Laws}
use Rattle.stores.proofs.Questions.{found_fits, found_pair}
use Rattle.flat.specs.declared.context_row.ContextRow.{ContextRow}
use Rattle.flat.specs.Flat.{is_free, pair_of, held_in, room_in}
use Rattle.flat.specs.Rows.{all_fit, once_in}

pub laws_of : (xs : List ContextRow) → Apart is_free pair_of xs → 16 ≤ length xs → Laws (held_in xs) (length xs) (room_in xs)
laws_of xs h n =
    record {
      once = once_in xs h;
      bounds = λ u k c e. found_fits (held_in xs) u k c (all_fit xs) e;
      held = λ u k e. and_from _ _ (found_pair (held_in xs) u k (all_fit xs) e) (or_left _ _ e);
      spare = λ u k l f. and_from _ _ f (or_right _ _ (lt-ltb _ _ l));
      within = λ u k e. (and_parts (pair_fits u k) _ e).0;
      enough = n;
    }

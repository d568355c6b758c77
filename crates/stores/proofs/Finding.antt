-- What is found in a store after a call.
use Rattle.std.proofs.Common.{◌≡◌, ℕ, Bool, true, false, ◌&&◌, List, is_some, Some, None, Ok, Err, Option, Result, eqb, refl, ap, ◌∙◌}
use Rattle.std.specs.Prelude.{is_ok}
use Rattle.std.proofs.lemmas.Bool.{and_from, eq-eqb, cond-true, cond-false, false≢true}
use Rattle.stores.specs.declared.context.Context.{Context}
use Rattle.stores.specs.declared.no_room.NoRoom.{NoRoom}
use Rattle.stores.specs.Contexts.{is_of, lookup}
use Rattle.stores.specs.Stores.{Puts, Removes}
use Rattle.stores.specs.Finding.{FoundAfterPut, FoundAfterRemove, Law}

put_done : (c : Context) (xs ys : List Context) (room room' : ℕ → ℕ → Bool) (r : Result (Unit {0}) NoRoom) → Puts c xs ys room room' r → FoundAfterPut c xs ys (is_ok r)
put_done c xs ys room room' (Ok x) p = record {
  stands = p.at c.ue c.session ∙ cond-true (is_of c.ue c.session c) (Some c) (lookup xs c.ue c.session) (and_from _ _ (eq-eqb c.ue c.ue refl) (eq-eqb c.session c.session refl));
  others = λ u k e. p.at u k ∙ cond-false (is_of u k c) (Some c) (lookup xs u k) e;
}
put_done c xs ys room room' (Err x) p = record {
  stands = ap (λ (zs : List Context). lookup zs c.ue c.session) p.contexts;
  others = λ u k e. ap (λ (zs : List Context). lookup zs u k) p.contexts;
}

removed : (u k : ℕ) (xs ys : List Context) (room room' : ℕ → ℕ → Bool) (r : Bool) → Removes u k xs ys room room' r → FoundAfterRemove u k xs ys
removed u k xs ys room room' true p = record {
  gone = p.change.at u k ∙ cond-true (eqb u u && eqb k k) None (lookup xs u k) (and_from _ _ (eq-eqb u u refl) (eq-eqb k k refl));
  others = λ v j e. p.change.at v j ∙ cond-false (eqb u v && eqb k j) None (lookup xs v j) e;
}
removed u k xs ys room room' false p = record {
  gone = ap (λ (zs : List Context). lookup zs u k) p.change.contexts ∙ none (lookup xs u k) p.stood;
  others = λ v j e. ap (λ (zs : List Context). lookup zs v j) p.change.contexts;
}
  where
    none : (o : Option Context) → false ≡ is_some o → o ≡ None
    none None e = refl
    none (Some c) e = absurd (false≢true e)

pub law : Law
law = record {
  put = λ c xs ys room room' r e p. rw (← e) (put_done c xs ys room room' r p);
  remove = removed;
  spare = λ xs n room h l u k f. h.spare u k l f;
}

-- What writing a row changes.
use Rattle.std.proofs.Common.{◌≡◌, ℕ, ◌+◌, ◌<◌, Bool, true, false, cond, not, ◌&&◌, eqb, ◌⊎◌, List, length, get_or, set, is_some, Some, None, Option, sym, refl, ap, ◌∙◌, subst, inl, inr, arith}
use Rattle.std.specs.Option.{option_map}
use Rattle.std.proofs.lemmas.Bool.{cases_eq, cases_Bool, and_left, eq-eqb, ne_eqb, true≢false}
use Rattle.std.specs.List.{find}
use Rattle.tables.specs.Rows.{Apart, Target}
use Rattle.tables.proofs.Lists.{set_only, sum_set}
use Rattle.tables.proofs.Found.{Tests, takes_here, takes_other}
use Rattle.stores.specs.declared.context.Context.{Context}
use Rattle.stores.specs.Contexts.{lookup}
use Rattle.grid.specs.declared.place.Place.{Place}
use Rattle.grid.specs.declared.ue_row.UeRow.{UeRow}
use Rattle.grid.specs.Held.{place_at}
use Rattle.grid.specs.Grids.{context_of, context_at, is_free, ue_of, Writes, contexts_in, serves}
use Rattle.grid.specs.Places.{free_none}
use Rattle.grid.specs.Rows.{tests, by_row, lookup_row, found_at, absent_at, filled, rows_long}
use Rattle.grid.proofs.Written.{stands, written_at, written_size}
use Rattle.tables.proofs.Aparts.{target_within, target_only, apart_set}

module _ (xs : List UeRow) (u k : ℕ) (o : Option Place) (i : ℕ) (d y : UeRow) (wrote : Writes (get_or xs i d) y u k o) (apart : Apart is_free ue_of xs) (target : Target is_free ue_of u xs i) (low : 0 < k) (high : k < 16) where
  -- the same place, told by the key of what is written
  here : Target is_free ue_of y.ue xs i
  here = subst (λ (m : ℕ). Target is_free ue_of m xs i) (sym wrote.ue) target

  within : i < length xs
  within = target_within is_free ue_of u xs i target

  pub apart_after : Apart is_free ue_of (set xs i y)
  apart_after = apart_set is_free ue_of y xs i apart here

  -- what stood in the row is what the UE had
  before : (j : ℕ) → lookup (contexts_in xs) u j ≡ stands (get_or xs i d) u j
  before j = go target
    where
      empty : (o : Option Place) (w : ℕ) → option_map (context_of w j) o ≡ None → None ≡ option_map (context_of u j) o
      empty None w e = refl
      empty (Some p) w e = absurd (true≢false (ap (λ (r : Option Context). is_some r) e))

      go : Target is_free ue_of u xs i → lookup (contexts_in xs) u j ≡ stands (get_or xs i d) u j
      go (inl f) = found_at xs u i d apart f j ∙ ap (λ (w : ℕ). option_map (context_of w j) (place_at (get_or xs i d).places j)) (f.key d)
      go (inr (f, a)) = absent_at xs u apart a j ∙ empty (place_at (get_or xs i d).places j) (get_or xs i d).ue (free_none (get_or xs i d) (f.here d) j)

  own : (j : ℕ) → by_row (find (serves u) (set xs i y)) j ≡ context_at y j
  own j = go (cases_Bool (is_free y))
    where
      go : (is_free y ≡ true) ⊎ (is_free y ≡ false) → by_row (find (serves u) (set xs i y)) j ≡ context_at y j
      go (inl e) =
          ap (λ (r : Option UeRow). by_row r j)
          (set_only (serves u) xs i y (and_left _ _ (ap not e)) (λ m c l t. target_only is_free ue_of u xs i m c apart target l ((tests u).means (get_or xs m c) t)))
          ∙ sym (free_none y e j)
      go (inr e) =
          ap (λ (r : Option UeRow). by_row r j) (takes_here is_free ue_of (serves u) y xs (set xs i y) i (subst (Tests is_free ue_of (serves u)) (sym wrote.ue) (tests u)) e (record { after = refl; place = here }))

  pub lookup_after : (v j : ℕ) → lookup (contexts_in (set xs i y)) v j ≡ cond (eqb u v && eqb k j) (option_map (context_of u k) o) (lookup (contexts_in xs) v j)
  lookup_after v j = lookup_row (set xs i y) apart_after v j ∙ go (cases_eq u v)
    where
      go : (u ≡ v) ⊎ (u ≡ v → ⊥) → by_row (find (serves v) (set xs i y)) j ≡ cond (eqb u v && eqb k j) (option_map (context_of u k) o) (lookup (contexts_in xs) v j)
      go (inl z) =
          rw (← z)
          (own j
          ∙ written_at (get_or xs i d) y u k o wrote low high j
          ∙ ap (λ (r : Option Context). cond (eqb k j) (option_map (context_of u k) o) r) (sym (before j))
          ∙ ap (λ (t : Bool). cond (t && eqb k j) (option_map (context_of u k) o) (lookup (contexts_in xs) u j)) (sym (eq-eqb u u refl)))
      go (inr n) =
          ap (λ (r : Option UeRow). by_row r j) (takes_other is_free ue_of (serves v) v y xs (set xs i y) i (tests v) (λ z. n (sym wrote.ue ∙ z)) (record { after = refl; place = here }))
          ∙ sym (lookup_row xs apart v j)
          ∙ ap (λ (t : Bool). cond (t && eqb k j) (option_map (context_of u k) o) (lookup (contexts_in xs) v j)) (sym (ne_eqb u v n))

  pub size_after : length (contexts_in (set xs i y)) + cond (is_some (lookup (contexts_in xs) u k)) 1 0 ≡ length (contexts_in xs) + cond (is_some o) 1 0
  size_after =
      let a = rows_long (set xs i y) in
      let b = rows_long xs in
      let s = sum_set filled xs i d y within in
      let w = written_size (get_or xs i d) y u k o wrote low high in
      let z = ap (λ (r : Option Context). cond {A = ℕ} (is_some r) 1 0) (before k) in
      omega (arith, a, b, s, w, z)

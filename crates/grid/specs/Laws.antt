-- What holds of every store holds of rows. It stands here, since the proof of a law may not name proofs/.
use Rattle.std.proofs.Common.{◌≡◌, ℕ, ◌<◌, true, false, ◌||◌, ◌⊎◌, List, length, is_some, Some, None, Option, sym, refl, ap, ◌∙◌, inl, inr, arith}
use Rattle.std.proofs.lemmas.Bool.{cases_Bool, and_parts, and_from, or_left, or_right, true≢false}
use Rattle.std.specs.List.{find}
use Rattle.tables.specs.Rows.{Apart}
use Rattle.stores.specs.declared.context.Context.{Context}
use Rattle.stores.specs.Contexts.{in_bounds, pair_fits, fits, lookup}
use Rattle.stores.proofs.Questions.{fits_found}
use Rattle.stores.specs.Stores.{Laws}
use Rattle.grid.specs.declared.ue_row.UeRow.{UeRow}
use Rattle.grid.specs.Grids.{is_free, ue_of, contexts_in, serves, room_in}
use Rattle.grid.specs.Rows.{by_row, lookup_row, rows_long, rows_once, full_long}

-- the contexts are in bounds
abbrev pub Bounded : List UeRow → Type 0
Bounded xs = (u k : ℕ) → in_bounds (lookup (contexts_in xs) u k) ≡ true

bounded : (xs : List UeRow) → Bounded xs → (u k : ℕ) (c : Context) → lookup (contexts_in xs) u k ≡ Some c → fits c ≡ true
bounded xs b u k c e = ap in_bounds (sym e) ∙ b u k

-- what the rows of a store keep to
pub record Sound (xs : List UeRow) : Type 0 where
  pub size : length xs ≡ 32
  pub apart : Apart is_free ue_of xs
  pub bounds : Bounded xs

pub laws_of : (xs : List UeRow) → Sound xs → Laws (contexts_in xs) 32 (room_in xs)
laws_of xs s = record {
  once = rows_once xs s.apart;
  bounds = bounded xs s.bounds;
  held = λ u k e. and_from _ _ (found u k (lookup (contexts_in xs) u k) refl e) (or_left _ _ (row u k (find (serves u) xs) (lookup_row xs s.apart u k) e));
  spare = λ u k l f. and_from _ _ f (or_right _ _ (free (cases_Bool (is_some (find is_free xs))) l));
  within = λ u k e. (and_parts (pair_fits u k) (is_some (find (serves u) xs) || is_some (find is_free xs)) e).0;
  enough = omega arith;
}
  where
    found : (u k : ℕ) (o : Option Context) → lookup (contexts_in xs) u k ≡ o → is_some (lookup (contexts_in xs) u k) ≡ true → pair_fits u k ≡ true
    found u k None z e = absurd (true≢false (sym e ∙ ap (λ (r : Option Context). is_some r) z))
    found u k (Some c) z e = fits_found (contexts_in xs) u k c z (bounded xs s.bounds u k c z)

    row : (u k : ℕ) (o : Option UeRow) → lookup (contexts_in xs) u k ≡ by_row o k → is_some (lookup (contexts_in xs) u k) ≡ true → is_some o ≡ true
    row u k None z e = absurd (true≢false (sym e ∙ ap (λ (r : Option Context). is_some r) z))
    row u k (Some x) z e = refl

    free : (is_some (find is_free xs) ≡ true) ⊎ (is_some (find is_free xs) ≡ false) → length (contexts_in xs) < 32 → is_some (find is_free xs) ≡ true
    free (inl e) l = e
    free (inr e) l = let f = full_long xs e in let r = rows_long xs in let n = s.size in absurd (omega (arith, f, r, l, n))

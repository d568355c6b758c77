-- What the rows have for a UE and a session is what the UE's row has.
use Rattle.std.proofs.Common.{◌≡◌, ℕ, zero, suc, ◌≤◌, Bool, true, false, cond, not, eqb, ◌⊎◌, List, [], ◌∷◌, ◌++◌, length, get_or, is_some, Some, None, Option, sym, refl, ap, ◌∙◌, subst, inl, inr, zero-lt-suc, arith}
use Rattle.std.proofs.lemmas.Bool.{cases_Bool, and_parts, and_from, and_cases, and_left, eqb-true, eq-eqb, cond-true, cond-false, not-true, not-false, not_from_false, true≢false}
use Rattle.std.specs.List.{find}
use Rattle.tables.specs.Lists.{sum_of}
use Rattle.tables.specs.Rows.{Absent, First, Apart, AllFree}
use Rattle.tables.proofs.Found.{Tests, absent_none, first_some}
use Rattle.stores.specs.declared.context.Context.{Context}
use Rattle.stores.specs.Contexts.{lookup, Once}
use Rattle.grid.specs.declared.ue_row.UeRow.{UeRow}
use Rattle.grid.specs.Grids.{context_at, others_in, is_free, ue_of, contexts_of, contexts_in, serves}
use Rattle.grid.specs.Places.{row_past, row_own, row_long, own_once, free_row, used_row}
use Rattle.tables.proofs.Aparts.{apart_tail, apart_head}

pub tests : (u : ℕ) → Tests is_free ue_of (serves u) u
tests u = record {
  means = λ x e. let h = and_parts (not (is_free x)) (eqb x.ue u) e in (not-true (is_free x) h.0, eqb-true x.ue u h.1);
  shows = λ x h. and_from _ _ (not_from_false (is_free x) h.0) (eq-eqb x.ue u h.1);
}

-- what the row that was found has for session j
abbrev pub by_row : Option UeRow → ℕ → Option Context
by_row None j = None
by_row (Some x) j = context_at x j

pub lookup_row : (xs : List UeRow) → Apart is_free ue_of xs → (v j : ℕ) → lookup (contexts_in xs) v j ≡ by_row (find (serves v) xs) j
lookup_row [] h v j = refl
lookup_row (x ∷ xs) h v j = go (cases_Bool (serves v x)) (lookup_row xs (apart_tail is_free ue_of x xs h) v j)
  where
    front : is_free x ≡ false → x.ue ≡ v → lookup (contexts_in xs) v j ≡ by_row (find (serves v) xs) j → lookup (contexts_of x ++ contexts_in xs) v j ≡ context_at x j
    front f z rest =
        let n = rest ∙ ap (λ (o : Option UeRow). by_row o j) (absent_none is_free ue_of (serves v) v xs (tests v) (apart_head is_free ue_of x xs v h (f, z))) in
        ap (lookup_in j) (sym z) ∙ row_own x (contexts_in xs) j (ap (λ (i : ℕ). lookup (contexts_in xs) i j) z ∙ n)
      where
        lookup_in : ℕ → ℕ → Option Context
        lookup_in m i = lookup (contexts_of x ++ contexts_in xs) i m

    past : (not (is_free x) ≡ false) ⊎ (eqb x.ue v ≡ false) → lookup (contexts_of x ++ contexts_in xs) v j ≡ lookup (contexts_in xs) v j
    past (inl f) = ap (λ (cs : List Context). lookup cs v j) (free_row x (contexts_in xs) (not-false (is_free x) f))
    past (inr n) = row_past x (contexts_in xs) v j (λ m. and_left _ _ n)

    go : (serves v x ≡ true) ⊎ (serves v x ≡ false) → lookup (contexts_in xs) v j ≡ by_row (find (serves v) xs) j → lookup (contexts_in (x ∷ xs)) v j ≡ by_row (find (serves v) (x ∷ xs)) j
    go (inl e) rest =
        let h' = (tests v).means x e in
        front h'.0 h'.1 rest ∙ sym (ap (λ (o : Option UeRow). by_row o j) (cond-true (serves v x) (Some x) (find (serves v) xs) e))
    go (inr e) rest =
        past (and_cases (not (is_free x)) (eqb x.ue v) e)
        ∙ rest
        ∙ sym (ap (λ (o : Option UeRow). by_row o j) (cond-false (serves v x) (Some x) (find (serves v) xs) e))

pub found_at : (xs : List UeRow) (u i : ℕ) (d : UeRow) → Apart is_free ue_of xs → First is_free ue_of u xs i → (j : ℕ) → lookup (contexts_in xs) u j ≡ context_at (get_or xs i d) j
found_at xs u i d h f j = lookup_row xs h u j ∙ ap (λ (o : Option UeRow). by_row o j) (first_some is_free ue_of (serves u) u xs i d (tests u) f)

pub absent_at : (xs : List UeRow) (u : ℕ) → Apart is_free ue_of xs → Absent is_free ue_of u xs → (j : ℕ) → lookup (contexts_in xs) u j ≡ None
absent_at xs u h a j = lookup_row xs h u j ∙ ap (λ (o : Option UeRow). by_row o j) (absent_none is_free ue_of (serves u) u xs (tests u) a)

-- ---- how many there are

abbrev pub filled : UeRow → ℕ
filled x = others_in x 0

pub rows_long : (xs : List UeRow) → length (contexts_in xs) ≡ sum_of filled xs
rows_long [] = refl
rows_long (x ∷ xs) = let e = rows_long xs in let l = row_long x (contexts_in xs) in omega (arith, e, l)

pub rows_once : (xs : List UeRow) → Apart is_free ue_of xs → Once (contexts_in xs)
rows_once [] h = tt
rows_once (x ∷ xs) h = go (cases_Bool (is_free x)) (rows_once xs (apart_tail is_free ue_of x xs h))
  where
    go : (is_free x ≡ true) ⊎ (is_free x ≡ false) → Once (contexts_in xs) → Once (contexts_in (x ∷ xs))
    go (inl e) rest = subst Once (sym (free_row x (contexts_in xs) e)) rest
    go (inr e) rest =
        own_once x (contexts_in xs) rest
        (absent_at xs x.ue (apart_tail is_free ue_of x xs h) (apart_head is_free ue_of x xs x.ue h (e, refl)))

pub all_free_none : (xs : List UeRow) → AllFree is_free xs → contexts_in xs ≡ []
all_free_none [] h = refl
all_free_none (x ∷ xs) h =
    free_row x (contexts_in xs) (h 0 x (zero-lt-suc (length xs))) ∙ all_free_none xs (λ j d l. h (suc j) d (omega arith))

pub none_all_free : (xs : List UeRow) → sum_of filled xs ≡ 0 → AllFree is_free xs
none_all_free [] e j d l = absurd (omega (arith, l))
none_all_free (x ∷ xs) e zero d l = eq-eqb (filled x) 0 (omega (arith, e))
none_all_free (x ∷ xs) e (suc j) d l = none_all_free xs (omega (arith, e)) j d (omega arith)

-- rows of which none is free have a context each
pub full_long : (xs : List UeRow) → is_some (find is_free xs) ≡ false → length xs ≤ sum_of filled xs
full_long [] e = omega arith
full_long (x ∷ xs) e = go (is_free x) refl (full_long xs) e
  where
    go : (b : Bool) → is_free x ≡ b → (is_some (find is_free xs) ≡ false → length xs ≤ sum_of filled xs) → is_some (cond b (Some x) (find is_free xs)) ≡ false → length (x ∷ xs) ≤ sum_of filled (x ∷ xs)
    go true f rest z = absurd (true≢false z)
    go false f rest z = let n = used_row x f in let l = rest z in omega (arith, n, l)

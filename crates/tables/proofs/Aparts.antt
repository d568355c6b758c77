-- Rows stay apart when one is written to the place of its key, or to a free place where the key has none.
use Rattle.std.proofs.Common.{◌≡◌, ℕ, suc, ◌<◌, Bool, ◌⊎◌, List, ◌∷◌, length, get_or, set, sym, ap, ◌∙◌, inl, inr, zero-lt-suc, arith}
use Rattle.std.proofs.lemmas.List.{length-set, get_or-set_same, get_or-set_other}
use Rattle.std.proofs.lemmas.Bool.{cases_eq}
use Rattle.tables.specs.Rows.{Held, Absent, Apart, Target}

module _ {R K : Type 0} (free : R → Bool) (named : R → K) where
  pub apart_tail : (x : R) (xs : List R) → Apart free named (x ∷ xs) → Apart free named xs
  apart_tail x xs h i j d a b v w e = let r = h (suc i) (suc j) d (omega arith) (omega arith) v w e in omega (arith, r)

  -- no later row is in use under the first one's key
  pub apart_head : (x : R) (xs : List R) (k : K) → Apart free named (x ∷ xs) → Held free named k x → Absent free named k xs
  apart_head x xs k h (v, e) j d l (w, f) =
      let r = h 0 (suc j) d (zero-lt-suc (length xs)) (omega arith) v w (e ∙ sym f) in omega (arith, r)

  pub target_within : (k : K) (xs : List R) (i : ℕ) → Target free named k xs i → i < length xs
  target_within k xs i (inl f) = f.within
  target_within k xs i (inr (f, a)) = f.within

  -- no other row than the target is in use under its key
  pub target_only : (k : K) (xs : List R) (i j : ℕ) (d : R) → Apart free named xs → Target free named k xs i → j < length xs → Held free named k (get_or xs j d) → j ≡ i
  target_only k xs i j d h (inl f) l (v, e) = h j i d l f.within v (f.used d) (e ∙ sym (f.key d))
  target_only k xs i j d h (inr (f, a)) l p = absurd (a j d l p)

  pub apart_set : (x : R) (xs : List R) (i : ℕ) → Apart free named xs → Target free named (named x) xs i → Apart free named (set xs i x)
  apart_set x xs i h p a b d la lb va vb e =
      go (cases_eq a i) (cases_eq b i)
    where
      la' : a < length xs
      la' = rw length-set at la

      lb' : b < length xs
      lb' = rw length-set at lb

      li : i < length xs
      li = target_within (named x) xs i p

      here : (m : ℕ) → m ≡ i → named (get_or (set xs i x) m d) ≡ named x
      here m z = rw z (ap named (get_or-set_same xs i x d li))

      moved : (m : ℕ) → (m ≡ i → ⊥) → get_or (set xs i x) m d ≡ get_or xs m d
      moved m n = get_or-set_other xs i m x d n

      go : (a ≡ i) ⊎ (a ≡ i → ⊥) → (b ≡ i) ⊎ (b ≡ i → ⊥) → a ≡ b
      go (inl y) (inl z) = y ∙ sym z
      go (inl y) (inr z) =
          absurd (z (target_only (named x) xs i b d h p lb' (ap free (sym (moved b z)) ∙ vb, ap named (sym (moved b z)) ∙ sym e ∙ here a y)))
      go (inr y) (inl z) =
          absurd (y (target_only (named x) xs i a d h p la' (ap free (sym (moved a y)) ∙ va, ap named (sym (moved a y)) ∙ e ∙ here b z)))
      go (inr y) (inr z) =
          h a b d la' lb' (ap free (sym (moved a y)) ∙ va) (ap free (sym (moved b z)) ∙ vb)
          (ap named (sym (moved a y)) ∙ e ∙ ap named (moved b z))

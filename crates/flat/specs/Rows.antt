-- The rows of a flat store, told by the contexts in them: what the laws of a store rest on.
use Rattle.std.proofs.Common.{◌≡◌, ℕ, ◌+◌, Bool, true, false, cond, not, eqb, List, [], ◌∷◌, length, is_some, Some, None, Option, sym, refl, ap, ◌∙◌, arith}
use Rattle.std.specs.List.{find, cons_option}
use Rattle.std.proofs.lemmas.Bool.{and_parts, and_from, eqb-true, eq-eqb, true≢false, false≢true}
use Rattle.tables.specs.Rows.{Apart}
use Rattle.tables.proofs.Aparts.{apart_tail, apart_head}
use Rattle.tables.proofs.Found.{Tests, absent_none, used}
use Rattle.stores.specs.declared.context.Context.{Context}
use Rattle.stores.specs.declared.pdu_session.PduSession.{PduSession}
use Rattle.stores.specs.Contexts.{is_of, lookup, Once, in_bounds}
use Rattle.stores.proofs.Questions.{AllFit}
use Rattle.flat.specs.declared.context_row.ContextRow.{ContextRow}
use Rattle.flat.specs.Flat.{mk_pair, pair_in, is_free, pair_of, held_in}

-- ---- one row

abbrev pub held_is : ℕ → ℕ → Option Context → Bool
held_is u k None = false
held_is u k (Some c) = is_of u k c

-- the row has the context of session k of UE u
abbrev pub row_is : ℕ → ℕ → ContextRow → Bool
row_is u k x = held_is u k x.held

pub pair_is : (c : Context) (u k : ℕ) → is_of u k c ≡ true → mk_pair c.ue c.session ≡ mk_pair u k
pair_is c u k e =
    let a = eqb-true c.ue u (and_parts (eqb c.ue u) (eqb c.session k) e).0 in
    let b = eqb-true c.session k (and_parts (eqb c.ue u) (eqb c.session k) e).1 in
    cc

pub is_pair : (c : Context) (u k : ℕ) → mk_pair c.ue c.session ≡ mk_pair u k → is_of u k c ≡ true
is_pair c u k e = and_from _ _ (eq-eqb _ _ (ap (λ (p : PduSession). p.ue) e)) (eq-eqb _ _ (ap (λ (p : PduSession). p.id) e))

pub tests : (u k : ℕ) → Tests is_free pair_of (row_is u k) (mk_pair u k)
tests u k = record { means = λ x e. means x.held e; shows = λ x h. shows x.held h.0 h.1 }
  where
    means : (o : Option Context) → held_is u k o ≡ true → (not (is_some o) ≡ false) × (pair_in o ≡ mk_pair u k)
    means None e = absurd (false≢true e)
    means (Some c) e = (refl, pair_is c u k e)

    shows : (o : Option Context) → not (is_some o) ≡ false → pair_in o ≡ mk_pair u k → held_is u k o ≡ true
    shows None f e = absurd (true≢false f)
    shows (Some c) f e = is_pair c u k e

-- ---- look-ups

abbrev pub held_of : Option ContextRow → Option Context
held_of None = None
held_of (Some x) = x.held

pub held_lookup : (xs : List ContextRow) (u k : ℕ) → lookup (held_in xs) u k ≡ held_of (find (row_is u k) xs)
held_lookup [] u k = refl
held_lookup (x ∷ xs) u k = go x.held refl (held_lookup xs u k)
  where
    go : (o : Option Context) → x.held ≡ o → lookup (held_in xs) u k ≡ held_of (find (row_is u k) xs) → lookup (cons_option o (held_in xs)) u k ≡ held_of (cond (held_is u k o) (Some x) (find (row_is u k) xs))
    go None e rest = rest
    go (Some c) e rest = at (is_of u k c)
      where
        at : (b : Bool) → cond b (Some c) (lookup (held_in xs) u k) ≡ held_of (cond b (Some x) (find (row_is u k) xs))
        at true = sym e
        at false = rest

pub held_length : (xs : List ContextRow) → length (held_in xs) ≡ used is_free xs
held_length [] = refl
held_length (x ∷ xs) = go x.held (held_length xs)
  where
    go : (o : Option Context) → length (held_in xs) ≡ used is_free xs → length (cons_option o (held_in xs)) ≡ cond (not (is_some o)) 0 1 + used is_free xs
    go None e = omega (arith, e)
    go (Some c) e = omega (arith, e)

pub all_fit : (xs : List ContextRow) → AllFit (held_in xs)
all_fit [] = tt
all_fit (x ∷ xs) = go x.held x.bounded (all_fit xs)
  where
    go : (o : Option Context) → in_bounds o ≡ true → AllFit (held_in xs) → AllFit (cons_option o (held_in xs))
    go None e rest = rest
    go (Some c) e rest = (e, rest)

pub once_in : (xs : List ContextRow) → Apart is_free pair_of xs → Once (held_in xs)
once_in [] h = tt
once_in (x ∷ xs) h = go x.held refl (once_in xs (apart_tail is_free pair_of x xs h))
  where
    go : (o : Option Context) → x.held ≡ o → Once (held_in xs) → Once (cons_option o (held_in xs))
    go None e rest = rest
    go (Some c) e rest =
        let a = apart_head is_free pair_of x xs (mk_pair c.ue c.session) h (ap (λ (p : Option Context). not (is_some p)) e, ap pair_in e) in
        (held_lookup xs c.ue c.session ∙ ap held_of (absent_none is_free pair_of (row_is c.ue c.session) (mk_pair c.ue c.session) xs (tests c.ue c.session) a), rest)

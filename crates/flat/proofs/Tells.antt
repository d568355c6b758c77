-- What a table's calls say of its rows, told of the contexts in them.
use Rattle.std.proofs.Common.{◌≡◌, ℕ, suc, ◌+◌, min, Bool, true, false, cond, not, ◌&&◌, eqb, ltb, ◌⊎◌, List, [], ◌∷◌, length, get_or, is_some, Some, None, Decides, Option, Result, Ok, Err, sym, refl, ap, ◌∙◌, subst, inl, inr, zero-lt-suc, arith, length-set}
use Rattle.std.specs.Result.{is_ok, result_or}
use Rattle.std.specs.List.{find, cons_option, count_by, filter_map, reduce}
use Rattle.std.proofs.lemmas.Bool.{cases_Bool, and_parts, and_from, and_right, or_left, or_right, or_from, eqb-true, eq-eqb, lt-ltb, le-ltb, true≢false, false≢true}
use Rattle.tables.specs.Rows.{Absent, First, Apart, AllFree, NoneFree, FirstFree, FindsTarget}
use Rattle.tables.specs.Tables.{Takes, Full, Frees}
use Rattle.tables.specs.Tables as tables
use Rattle.tables.specs.declared.table.TableFull.{TableFull}
use Rattle.tables.proofs.Found as found
use Rattle.tables.proofs.Found.{absent_none, first_some, takes_here, takes_other, takes_size, frees_here, frees_other, frees_size, used, none_used, all_used, some_free, zero_used}
use Rattle.stores.specs.declared.context.Context.{Context}
use Rattle.stores.specs.declared.no_room.NoRoom.{NoRoom}
use Rattle.stores.specs.declared.pdu_session.PduSession.{PduSession}
use Rattle.stores.specs.Contexts.{pair_fits, fits, is_of, lookup, others_of, is_other, other_emergency, emergency_at, Lowest}
use Rattle.stores.specs.Stores.{Puts, Removes}
use Rattle.stores.proofs.Counts.{count_cons}
use Rattle.stores.proofs.Questions.{count_others, lowest_other}
use Rattle.flat.specs.declared.context_row.ContextRow.{ContextRow}
use Rattle.flat.specs.Held.{held_other, held_emergency}
use Rattle.flat.specs.Flat.{mk_pair, pair_in, is_free, pair_of, held_in, room_in}
use Rattle.flat.specs.Rows.{row_is, tests, pair_is, is_pair, held_of, held_lookup, held_length, all_fit, once_in}

pub none_held : (xs : List ContextRow) → AllFree is_free xs → held_in xs ≡ []
none_held [] h = refl
none_held (x ∷ xs) h = go x.held (h 0 x (zero-lt-suc (length xs))) (none_held xs (λ j d l. h (suc j) d (omega arith)))
  where
    go : (o : Option Context) → not (is_some o) ≡ true → held_in xs ≡ [] → cons_option o (held_in xs) ≡ []
    go None f e = e
    go (Some c) f e = absurd (false≢true f)

pub found_held : (xs : List ContextRow) (u k i : ℕ) (x : ContextRow) → First is_free pair_of (mk_pair u k) xs i → lookup (held_in xs) u k ≡ (get_or xs i x).held
found_held xs u k i x f = held_lookup xs u k ∙ ap held_of (first_some is_free pair_of (row_is u k) (mk_pair u k) xs i x (tests u k) f)

pub none_found : (xs : List ContextRow) (u k : ℕ) → Absent is_free pair_of (mk_pair u k) xs → lookup (held_in xs) u k ≡ None
none_found xs u k a = held_lookup xs u k ∙ ap held_of (absent_none is_free pair_of (row_is u k) (mk_pair u k) xs (tests u k) a)

in_use : (x : ContextRow) → is_free x ≡ false → is_some x.held ≡ true
in_use x e = go x.held e
  where
    go : (o : Option Context) → not (is_some o) ≡ false → is_some o ≡ true
    go None e = absurd (true≢false e)
    go (Some c) e = refl

pub first_held : (xs : List ContextRow) (u k i : ℕ) (x : ContextRow) → First is_free pair_of (mk_pair u k) xs i → is_some (lookup (held_in xs) u k) ≡ true
first_held xs u k i x f = ap (λ (o : Option Context). is_some o) (found_held xs u k i x f) ∙ in_use (get_or xs i x) (f.used x)

-- a free row
none : ContextRow
none = record { held = None; bounded = refl }

pub free_counts : (xs : List ContextRow) (i : ℕ) → FirstFree is_free xs i → ltb (length (held_in xs)) (length xs) ≡ true
free_counts xs i f = let e = held_length xs in let l = some_free is_free xs i none f.within (f.here none) in lt-ltb _ _ (omega (arith, e, l))

pub full_counts : (xs : List ContextRow) → NoneFree is_free xs → ltb (length (held_in xs)) (length xs) ≡ false
full_counts xs h = let e = held_length xs in let l = all_used is_free xs h in le-ltb _ _ (omega (arith, e, l))

-- ---- put

pub record Put (c : Context) (xs ys : List ContextRow) (r : Result (Unit {0}) NoRoom) : Type 0 where
  pub room : is_ok r ≡ (fits c && room_in xs c.ue c.session)
  pub puts : Puts c (held_in xs) (held_in ys) (room_in xs) (room_in ys) r
  pub long : length ys ≡ length xs

module _ (c : Context) (x : ContextRow) (e : x.held ≡ Some c) (f : fits c ≡ true) (xs ys : List ContextRow) where
  own : pair_of x ≡ mk_pair c.ue c.session
  own = ap pair_in e

  taken : is_free x ≡ false
  taken = ap (λ (o : Option Context). not (is_some o)) e

  pair_bounds : pair_fits c.ue c.session ≡ true
  pair_bounds = (and_parts (pair_fits c.ue c.session) (ltb 0 c.smf && ltb c.dnn 65) f).0

  put_at : (i : ℕ) → Takes is_free pair_of x xs ys i → (u k : ℕ) → lookup (held_in ys) u k ≡ cond (is_of u k c) (Some c) (lookup (held_in xs) u k)
  put_at i t u k = go (cases_Bool (is_of u k c))
    where
      go : (is_of u k c ≡ true) ⊎ (is_of u k c ≡ false) → lookup (held_in ys) u k ≡ cond (is_of u k c) (Some c) (lookup (held_in xs) u k)
      go (inl p) =
          let s = subst (λ (q : PduSession). found.Tests is_free pair_of (row_is u k) q) (sym (own ∙ pair_is c u k p)) (tests u k) in
          rw p (held_lookup ys u k ∙ ap held_of (takes_here is_free pair_of (row_is u k) x xs ys i s taken t) ∙ e)
      go (inr p) =
          rw p
          (held_lookup ys u k
          ∙ ap held_of (takes_other is_free pair_of (row_is u k) (mk_pair u k) x xs ys i (tests u k) (λ q. true≢false (sym (is_pair c u k (sym own ∙ q)) ∙ p)) t)
          ∙ sym (held_lookup xs u k))

  put_size : (i : ℕ) → Takes is_free pair_of x xs ys i → length (held_in ys) ≡ length (held_in xs) + cond (is_some (lookup (held_in xs) c.ue c.session)) 0 1
  put_size i t = go t.place
    where
      s : found.Tests is_free pair_of (row_is c.ue c.session) (pair_of x)
      s = subst (λ (q : PduSession). found.Tests is_free pair_of (row_is c.ue c.session) q) (sym own) (tests c.ue c.session)

      n : used is_free ys ≡ used is_free xs + cond (is_some (find (row_is c.ue c.session) xs)) 0 1
      n = takes_size is_free pair_of (row_is c.ue c.session) x xs ys i s taken t

      go : First is_free pair_of (pair_of x) xs i ⊎ (FirstFree is_free xs i × Absent is_free pair_of (pair_of x) xs) → length (held_in ys) ≡ length (held_in xs) + cond (is_some (lookup (held_in xs) c.ue c.session)) 0 1
      go (inl h) =
          let a = held_length xs in
          let b = held_length ys in
          let m = rw (first_some is_free pair_of (row_is c.ue c.session) (pair_of x) xs i x s h) at n in
          rw (first_held xs c.ue c.session i x (subst (λ (q : PduSession). First is_free pair_of q xs i) own h)) (omega (arith, a, b, m))
      go (inr (h, z)) =
          let a = held_length xs in
          let b = held_length ys in
          let m = rw (absent_none is_free pair_of (row_is c.ue c.session) (pair_of x) xs s z) at n in
          rw (none_found xs c.ue c.session (subst (λ (q : PduSession). Absent is_free pair_of q xs) own z)) (omega (arith, a, b, m))

  put_room : (i : ℕ) → Takes is_free pair_of x xs ys i → room_in xs c.ue c.session ≡ true
  put_room i t = go t.place
    where
      go : First is_free pair_of (pair_of x) xs i ⊎ (FirstFree is_free xs i × Absent is_free pair_of (pair_of x) xs) → room_in xs c.ue c.session ≡ true
      go (inl h) = and_from _ _ pair_bounds (or_left _ _ (first_held xs c.ue c.session i x (subst (λ (q : PduSession). First is_free pair_of q xs i) own h)))
      go (inr (h, z)) = and_from _ _ pair_bounds (or_right _ _ (free_counts xs i h))

  pub put_tells : (r : Result (Unit {0}) TableFull) → tables.Sets is_free pair_of x xs ys r → Put c xs ys (result_or r (Err (record {})))
  put_tells (Ok _) (i, t) =
      record {
        room = sym (and_from _ _ f (put_room i t));
        puts = record { at = put_at i t; size = put_size i t };
        long = ap (λ (l : List ContextRow). length l) t.after ∙ length-set xs i x;
      }
  put_tells (Err _) t =
      let a = none_found xs c.ue c.session (subst (λ (q : PduSession). Absent is_free pair_of q xs) own t.absent) in
      record {
        room = sym (and_right (fits c) _ (and_right (pair_fits c.ue c.session) _ (or_from _ _ (ap (λ (o : Option Context). is_some o) a) (full_counts xs t.full))));
        puts = record { contexts = ap held_in t.same; rooms = λ u k. ap (λ (l : List ContextRow). room_in l u k) t.same };
        long = ap (λ (l : List ContextRow). length l) t.same;
      }

-- ---- remove

pub record Gone (u k : ℕ) (xs ys : List ContextRow) (r : Bool) : Type 0 where
  pub removes : Removes u k (held_in xs) (held_in ys) (room_in xs) (room_in ys) r
  pub long : length ys ≡ length xs

module _ (u k : ℕ) (xs ys : List ContextRow) (h : Apart is_free pair_of xs) where
  gone_at : (i : ℕ) (x : ContextRow) → Frees is_free pair_of (mk_pair u k) xs ys i x → (v j : ℕ) → lookup (held_in ys) v j ≡ cond (eqb u v && eqb k j) None (lookup (held_in xs) v j)
  gone_at i x t v j = go (cases_Bool (eqb u v && eqb k j))
    where
      go : ((eqb u v && eqb k j) ≡ true) ⊎ ((eqb u v && eqb k j) ≡ false) → lookup (held_in ys) v j ≡ cond (eqb u v && eqb k j) None (lookup (held_in xs) v j)
      go (inl p) =
          let a = eqb-true u v (and_parts (eqb u v) (eqb k j) p).0 in
          let b = eqb-true k j (and_parts (eqb u v) (eqb k j) p).1 in
          let q : mk_pair v j ≡ mk_pair u k = cc in
          rw p (held_lookup ys v j ∙ ap held_of (frees_here is_free pair_of (row_is v j) (mk_pair u k) xs ys i x (subst (λ (z : PduSession). found.Tests is_free pair_of (row_is v j) z) q (tests v j)) h t))
      go (inr p) =
          rw p
          (held_lookup ys v j
          ∙ ap held_of (frees_other is_free pair_of (row_is v j) (mk_pair u k) (mk_pair v j) xs ys i x (tests v j)
          (λ q. true≢false (sym (and_from _ _ (eq-eqb u v (ap (λ (z : PduSession). z.ue) q)) (eq-eqb k j (ap (λ (z : PduSession). z.id) q))) ∙ p)) t)
          ∙ sym (held_lookup xs v j))

  pub remove_tells : (r : Bool) → tables.Removes is_free pair_of (mk_pair u k) xs ys r → Gone u k xs ys r
  remove_tells true (i, (x, t)) =
      let a = held_length xs in
      let b = held_length ys in
      let n = frees_size is_free pair_of (mk_pair u k) xs ys i x t in
      record {
        removes = record { stood = sym (first_held xs u k i x t.first); change = record { at = gone_at i x t; size = omega (arith, a, b, n) } };
        long = ap (λ (l : List ContextRow). length l) t.after ∙ length-set xs i x;
      }
  remove_tells false (e, a) =
      record {
        removes = record {
          stood = sym (ap (λ (o : Option Context). is_some o) (none_found xs u k a));
          change = record { contexts = ap held_in e; rooms = λ v j. ap (λ (l : List ContextRow). room_in l v j) e };
        };
        long = ap (λ (l : List ContextRow). length l) e;
      }

-- ---- questions

pub empty_told : (xs : List ContextRow) → Decides (eqb (length (held_in xs)) 0) (AllFree is_free xs)
empty_told xs =
    let e = held_length xs in (
      (λ z. zero_used is_free xs (let n = eqb-true (length (held_in xs)) 0 z in omega (arith, e, n))),
      (λ h. let n = none_used is_free xs h in eq-eqb _ _ (omega (arith, e, n))),
    )

-- room as it is asked for: the session is in bounds, and it is held or a row is free
pub room_told : (xs : List ContextRow) (u k : ℕ) (o : Option ℕ) → pair_fits u k ≡ true → FindsTarget is_free pair_of (mk_pair u k) xs o → is_some o ≡ room_in xs u k
room_told xs u k None f (a, n) = sym (and_right (pair_fits u k) _ (or_from _ _ (ap (λ (o : Option Context). is_some o) (none_found xs u k a)) (full_counts xs n)))
room_told xs u k (Some i) f (inl h) = sym (and_from _ _ f (or_left _ _ (first_held xs u k i none h)))
room_told xs u k (Some i) f (inr (h, a)) = sym (and_from _ _ f (or_right _ _ (free_counts xs i h)))

count_held : (u k : ℕ) (xs : List ContextRow) → count_by (λ x. held_other u k x.held) xs ≡ count_by (is_other u k) (held_in xs)
count_held u k [] = refl
count_held u k (x ∷ xs) =
    let m = count_cons (λ (y : ContextRow). held_other u k y.held) x xs in
    go x.held (count_held u k xs) m
  where
    go : (o : Option Context) → count_by (λ (y : ContextRow). held_other u k y.held) xs ≡ count_by (is_other u k) (held_in xs) → {n : ℕ} → n ≡ cond (held_other u k o) 1 0 + count_by (λ (y : ContextRow). held_other u k y.held) xs → n ≡ count_by (is_other u k) (cons_option o (held_in xs))
    go None e m = omega (arith, e, m)
    go (Some c) e m = let d = count_cons (is_other u k) c (held_in xs) in omega (arith, e, m, d)

pub others_counted : (xs : List ContextRow) (u k : ℕ) → Apart is_free pair_of xs → count_by (λ x. held_other u k x.held) xs ≡ others_of (held_in xs) u k
others_counted xs u k h = count_held u k xs ∙ count_others u k (held_in xs) (once_in xs h) (all_fit xs)

lowest_held : (u k : ℕ) (xs : List ContextRow) → filter_map (λ x. held_emergency u k x.held) xs ≡ filter_map (other_emergency u k) (held_in xs)
lowest_held u k [] = refl
lowest_held u k (x ∷ xs) = go x.held (lowest_held u k xs)
  where
    go : (o : Option Context) → filter_map (λ y. held_emergency u k y.held) xs ≡ filter_map (other_emergency u k) (held_in xs) → cons_option (held_emergency u k o) (filter_map (λ y. held_emergency u k y.held) xs) ≡ filter_map (other_emergency u k) (cons_option o (held_in xs))
    go None e = e
    go (Some c) e = ap (cons_option (other_emergency u k c)) e

pub lowest_told : (xs : List ContextRow) (u k : ℕ) (r : Option ℕ) → Apart is_free pair_of xs → r ≡ reduce min (filter_map (λ x. held_emergency u k x.held) xs) → Lowest (emergency_at (held_in xs) u k) r
lowest_told xs u k r h e =
    subst (Lowest (emergency_at (held_in xs) u k)) (sym (e ∙ ap (reduce min) (lowest_held u k xs))) (lowest_other u k (held_in xs) (once_in xs h) (all_fit xs))

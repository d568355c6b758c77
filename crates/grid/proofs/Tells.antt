-- What the calls on the rows tell of the contexts in them.
use Rattle.std.proofs.Common.{◌≡◌, ℕ, ◌+◌, ◌<◌, Bool, true, false, cond, not, ◌&&◌, eqb, ltb, List, get_or, set, replicate, is_some, Some, None, MatchBool, MatchOption, Option, Bor, sym, refl, ap, ◌∙◌, subst, inl, ⊎_elim, arith, length-set}
use lib.ListN.{length-replicate, get_or-replicate}
use Rattle.std.specs.Option.{option_map}
use Rattle.std.proofs.lemmas.List.{set-get_or}
use Rattle.std.proofs.lemmas.Bool.{cases_Bool, and_parts, and_right, ltb-true, cond_both, true≢false}
use Rattle.tables.specs.Rows.{Apart, First, Absent, AllFree, Target}
use Rattle.tables.specs.Tables.{Gets}
use Rattle.stores.specs.declared.context.Context.{Context}
use Rattle.stores.specs.Contexts.{in_bounds, pair_fits, fits, lookup, is_emergency, other_at, others_of, emergency_at, lowest_emergency, sessions}
use Rattle.stores.specs.Stores.{Stored, Removes}
use Rattle.grid.specs.declared.place.Place.{Place}
use Rattle.grid.specs.declared.ue_row.UeRow.{UeRow}
use Rattle.grid.specs.Grids.{place_of, context_of, context_at, other_in, others_in, emergency_in, is_free, ue_of, Writes, contexts_in, room_in}
use Rattle.std.specs.List.{find}
use Rattle.stores.proofs.Counts.{count_same}
use Rattle.stores.proofs.Lowests.{find_same}
use Rattle.grid.specs.Places.{out_none}
use Rattle.grid.specs.Rows.{all_free_none, found_at, absent_at}
use Rattle.grid.specs.Laws.{Bounded, Sound}
use Rattle.grid.proofs.Rows.{apart_after, lookup_after, size_after}

-- ---- rows that are all free

pub copies_free : (n : ℕ) (x : UeRow) → is_free x ≡ true → AllFree is_free (replicate n x)
copies_free n x e j d l = ap is_free (get_or-replicate n j x d (rw (length-replicate n x) at l)) ∙ e

pub free_apart : (xs : List UeRow) → AllFree is_free xs → Apart is_free ue_of xs
free_apart xs h i j d a b v w e = absurd (true≢false (sym (h i d a) ∙ v))

pub free_bounded : (xs : List UeRow) → AllFree is_free xs → Bounded xs
free_bounded xs h u k = ap (λ (cs : List Context). in_bounds (lookup cs u k)) (all_free_none xs h)

-- ---- what a UE has

module _ (xs : List UeRow) (u k : ℕ) (h : Apart is_free ue_of xs) where
  pub count_found : (i : ℕ) (d : UeRow) → First is_free ue_of u xs i → others_in (get_or xs i d) k ≡ others_of (contexts_in xs) u k
  count_found i d f =
      count_same (other_in (get_or xs i d) k) (other_at (contexts_in xs) u k) 1 15
      (λ j a b. ap (λ (o : Option Context). not (eqb j k) && is_some o) (sym (found_at xs u i d h f j)))

  pub count_absent : Absent is_free ue_of u xs → 0 ≡ others_of (contexts_in xs) u k
  count_absent a = sym (count_same (other_at (contexts_in xs) u k) (λ j. false) 1 15 (λ j b c. and_right _ _ (ap (λ (o : Option Context). is_some o) (absent_at xs u h a j))))

  pub count_told : (n : ℕ) (o : Option (Bor UeRow)) → Gets is_free ue_of u xs o → MatchOption o (n ≡ 0) (λ x. n ≡ others_in x.now k) → n ≡ others_of (contexts_in xs) u k
  count_told n None a e = e ∙ count_absent a
  count_told n (Some x) (i, f, g) e = e ∙ ap (λ (y : UeRow). others_in y k) (g x.now) ∙ count_found i x.now f

  emergency_found : (i : ℕ) (d : UeRow) → First is_free ue_of u xs i → (j : ℕ) → emergency_at (contexts_in xs) u k j ≡ emergency_in (get_or xs i d) k j
  emergency_found i d f j = ap (λ (o : Option Context). not (eqb j k) && is_emergency o) (found_at xs u i d h f j)

  pub lowest_found : (i : ℕ) (d : UeRow) → First is_free ue_of u xs i → find (emergency_in (get_or xs i d) k) sessions ≡ lowest_emergency (contexts_in xs) u k
  lowest_found i d f = find_same (emergency_in (get_or xs i d) k) (emergency_at (contexts_in xs) u k) sessions (λ j. sym (emergency_found i d f j))

  pub lowest_absent : Absent is_free ue_of u xs → None ≡ lowest_emergency (contexts_in xs) u k
  lowest_absent a = sym (find_same (emergency_at (contexts_in xs) u k) (λ j. false) sessions (λ j. and_right _ _ (ap is_emergency (absent_at xs u h a j))))

-- ---- a place is written

module _ (xs : List UeRow) (i : ℕ) (d : UeRow) (before : Sound xs) where
  sound : (u k : ℕ) (o : Option Place) (y : UeRow) → Writes (get_or xs i d) y u k o → in_bounds (option_map (context_of u k) o) ≡ true → Target is_free ue_of u xs i → 0 < k → k < 16 → Sound (set xs i y)
  sound u k o y w e t a b = record {
    size = length-set xs i y ∙ before.size;
    apart = apart_after xs u k o i d y w before.apart t a b;
    bounds = λ v j.
        ap in_bounds (lookup_after xs u k o i d y w before.apart t a b v j)
        ∙ cond_both (eqb u v && eqb k j) (option_map (context_of u k) o) (lookup (contexts_in xs) v j) (λ r. in_bounds r ≡ true) (λ y. e) (λ n. before.bounds v j);
  }

  -- ---- put

  pub record Put (c : Context) (ys : List UeRow) : Type 0 where
    pub sound : Sound ys
    pub stored : Stored c (contexts_in xs) (contexts_in ys)

  pub put_tells : (c : Context) (x : UeRow) → fits c ≡ true → Target is_free ue_of c.ue xs i → Writes (get_or xs i d) x c.ue c.session (Some (place_of c)) → Put c (set xs i x)
  put_tells c x f t w = record {
    sound = sound c.ue c.session (Some (place_of c)) x w f t low high;
    stored = record {
      at = lookup_after xs c.ue c.session (Some (place_of c)) i d x w before.apart t low high;
      size = one_more (is_some (lookup (contexts_in xs) c.ue c.session)) _ _ (size_after xs c.ue c.session (Some (place_of c)) i d x w before.apart t low high);
    };
  }
    where
      range : (ltb 0 c.session && ltb c.session 16) ≡ true
      range = (and_parts (ltb 0 c.ue) _ (and_parts (pair_fits c.ue c.session) _ f).0).1

      low : 0 < c.session
      low = ltb-true 0 c.session (and_parts (ltb 0 c.session) (ltb c.session 16) range).0

      high : c.session < 16
      high = ltb-true c.session 16 (and_parts (ltb 0 c.session) (ltb c.session 16) range).1

      one_more : (t : Bool) (m n : ℕ) → m + cond t 1 0 ≡ n + 1 → m ≡ n + cond t 0 1
      one_more true m n e = omega (arith, e)
      one_more false m n e = omega (arith, e)

  -- ---- remove

  pub record Gone (u k : ℕ) (ys : List UeRow) (r : Bool) : Type 0 where
    pub sound : Sound ys
    pub removes : Removes u k (contexts_in xs) (contexts_in ys) (room_in xs) (room_in ys) r

  gone : (u k : ℕ) (x : UeRow) → First is_free ue_of u xs i → true ≡ is_some (context_at (get_or xs i d) k) → Writes (get_or xs i d) x (get_or xs i d).ue k None → Gone u k (set xs i x) true
  gone u k x first stood wrote = record {
    sound = sound w k None x wrote refl target low high;
    removes = record {
      stood = sym had;
      change = record {
        at = λ v j.
            lookup_after xs w k None i d x wrote before.apart target low high v j
            ∙ ap (λ (m : ℕ). cond (eqb m v && eqb k j) None (lookup (contexts_in xs) v j)) key;
        size =
            let e = size_after xs w k None i d x wrote before.apart target low high in
            let z = ap (λ (m : ℕ). cond {A = ℕ} (is_some (lookup (contexts_in xs) m k)) 1 0) key ∙ ap (λ (t : Bool). cond {A = ℕ} t 1 0) had in
            omega (arith, e, z);
      };
    };
  }
    where
      w : ℕ
      w = (get_or xs i d).ue

      key : w ≡ u
      key = first.key d

      had : is_some (lookup (contexts_in xs) u k) ≡ true
      had = ap (λ (o : Option Context). is_some o) (found_at xs u i d before.apart first k) ∙ sym stood

      target : Target is_free ue_of w xs i
      target = subst (λ (m : ℕ). Target is_free ue_of m xs i) (sym key) (inl first)

      range : (ltb 0 k && ltb k 16) ≡ true
      range = ⊎_elim (λ e. e) (λ e. absurd (true≢false (stood ∙ ap (λ (o : Option Context). is_some o) (out_none (get_or xs i d) k e)))) (cases_Bool (ltb 0 k && ltb k 16))

      low : 0 < k
      low = ltb-true 0 k (and_parts (ltb 0 k) (ltb k 16) range).0

      high : k < 16
      high = ltb-true k 16 (and_parts (ltb 0 k) (ltb k 16) range).1

  pub remove_tells : (u k : ℕ) (x : UeRow) (r : Bool) → First is_free ue_of u xs i → r ≡ is_some (context_at (get_or xs i d) k) → MatchBool r (Writes (get_or xs i d) x (get_or xs i d).ue k None) (x ≡ get_or xs i d) → Gone u k (set xs i x) r
  remove_tells u k x true first stood w = gone u k x first stood w
  remove_tells u k x false first stood e =
      subst (λ (ys : List UeRow). Gone u k ys false) (sym (ap (set xs i) e ∙ set-get_or xs i d)) (record {
        sound = before;
        removes = record {
          stood = stood ∙ sym (ap (λ (o : Option Context). is_some o) (found_at xs u i d before.apart first k));
          change = record { contexts = refl; rooms = λ v j. refl };
        };
      })

-- What is asked of the rows before they are changed.
use Rattle.std.proofs.Common.{◌≡◌, ℕ, Bool, true, false, ◌&&◌, ◌||◌, eqb, List, [], length, is_some, Some, None, Decides, Option, sym, refl, ap, ◌∙◌, inl, inr, arith}
use Rattle.std.proofs.lemmas.Bool.{and_parts, or_left, or_right, or_from, eq-eqb, ne_eqb, false≢true}
use Rattle.std.specs.List.{find}
use Rattle.tables.specs.Rows.{AllFree, FindsTarget}
use Rattle.tables.proofs.Lists.{none_passes, first_passes}
use Rattle.tables.proofs.Found.{absent_none, first_some}
use Rattle.stores.specs.declared.context.Context.{Context}
use Rattle.stores.specs.Contexts.{pair_fits, fits}
use Rattle.grid.specs.declared.ue_row.UeRow.{UeRow}
use Rattle.grid.specs.Grids.{is_free, ue_of, contexts_in, serves, room_in}
use Rattle.grid.specs.Rows.{tests, rows_long, all_free_none, none_all_free}

any : UeRow
any = record { ue = 0; held = 0; places = []; counted = refl }

room_tells : (xs : List UeRow) (u : ℕ) (r : Option ℕ) → FindsTarget is_free ue_of u xs r → (is_some (find (serves u) xs) || is_some (find is_free xs)) ≡ is_some r
room_tells xs u None (a, f) =
    or_from _ _ (ap (λ (o : Option UeRow). is_some o) (absent_none is_free ue_of (serves u) u xs (tests u) a))
    (ap (λ (o : Option UeRow). is_some o) (none_passes is_free xs f))
room_tells xs u (Some i) (inl f) = or_left _ _ (ap (λ (o : Option UeRow). is_some o) (first_some is_free ue_of (serves u) u xs i any (tests u) f))
room_tells xs u (Some i) (inr (f, a)) =
    or_right _ _ (ap (λ (o : Option UeRow). is_some o) (first_passes is_free xs i any f.within (f.here any) f.before))

pub room_is : (xs : List UeRow) (u k : ℕ) (r : Option ℕ) → pair_fits u k ≡ true → FindsTarget is_free ue_of u xs r → is_some r ≡ room_in xs u k
room_is xs u k r p h = sym (ap (λ (t : Bool). t && (is_some (find (serves u) xs) || is_some (find is_free xs))) p ∙ room_tells xs u r h)

pub put_room : (xs : List UeRow) (c : Context) (r : Option ℕ) → fits c ≡ true → FindsTarget is_free ue_of c.ue xs r → is_some r ≡ (fits c && room_in xs c.ue c.session)
put_room xs c r f h =
    room_is xs c.ue c.session r (and_parts (pair_fits c.ue c.session) _ f).0 h
    ∙ sym (ap (λ (t : Bool). t && room_in xs c.ue c.session) f)

pub empty_tells : (xs : List UeRow) (r : Bool) → Decides r (AllFree is_free xs) → r ≡ eqb (length (contexts_in xs)) 0
empty_tells xs true h = sym (eq-eqb _ _ (ap (λ (l : List Context). length l) (all_free_none xs (h.0 refl))))
empty_tells xs false h =
    let l = rows_long xs in
    sym (ne_eqb (length (contexts_in xs)) 0 (λ e. false≢true (h.1 (none_all_free xs (omega (arith, l, e))))))

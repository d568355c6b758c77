-- One step of the reader, over one element.
use Rattle.std.proofs.Common.{◌≡◌, ℕ, zero, suc, ◌+◌, ◌<◌, ◌≤◌, List, [], ◌∷◌, length, take, drop, Ok, Err, sym, refl, ap, ◌∙◌, subst, arith}
use Rattle.std.proofs.lemmas.List.{drop-drop, length-drop}
use Rattle.std.proofs.lemmas.Bool.Decides.{nat_tests}
use Rattle.nas.specs.declared.element.Element.{Element}
use Rattle.nas.specs.declared.element.Extent.{Extent}
use Rattle.nas.specs.Elements.{octets_of_length, contents_length, element}
use Rattle.codes.specs.declared.refusal.Refusal.{Refusal}
use Rattle.codes.specs.declared.refusal.Refusal.TheVariants.{Overrun}
use Rattle.codes.specs.Refusals.{refusal_number, refuse}
use Rattle.nas.specs.Steps.{Extends, Passed, Stopped}
use Rattle.nas.specs.Uplinks.{Parts, noted, nothing, walk, then, header, judged, read}

-- an element that fits the octets behind its first one
pub fitting : (x : ℕ) (behind : List ℕ) → 16 ≤ x → octets_of_length x + contents_length x behind ≤ length behind → element x behind ≡ Ok (record { size = octets_of_length x + contents_length x behind; contents = take (contents_length x behind) (drop (octets_of_length x) behind) })
fitting x behind known fits = grind (arith, nat_tests)

-- an element that runs past them
pub overrunning : (x : ℕ) (behind : List ℕ) → 16 ≤ x → length behind < octets_of_length x + contents_length x behind → element x behind ≡ refuse Overrun
overrunning x behind known over = grind (arith, nat_tests)

extended : (x : ℕ) (behind : List ℕ) (e : Extent) → Extends x behind e → element x behind ≡ Ok (record { size = e.length_octets + e.contents; contents = take e.contents (drop e.length_octets behind) })
extended x behind e h =
    fitting x behind h.known (omega (arith, h.lead, h.body, h.fits))
    ∙ (λ i. Ok (record { size = sym h.lead i + sym h.body i; contents = take (sym h.body i) (drop (sym h.lead i) behind) }))

-- the code's parts of xs are those of the element at its front; mid is what follows the octets of its length
pub passed : (x : ℕ) (xs behind mid : List ℕ) (e : Extent) (el : Element) (ys : List ℕ) → xs ≡ x ∷ behind → el.identifier ≡ x → Extends x behind e → mid ≡ drop e.length_octets behind → el.contents.now ≡ take e.contents mid → ys ≡ drop e.contents mid → Passed xs el ys
passed x xs behind mid e el ys is first h cut held rest =
    let left : ys ≡ drop (e.length_octets + e.contents) behind = rest ∙ ap (drop e.contents) cut ∙ drop-drop e.contents e.length_octets behind in
    subst (λ l. Passed l el ys) (sym is) (record {
      size = e.length_octets + e.contents;
      first = first;
      extent = extended x behind e h ∙ (λ i. Ok (record { size = e.length_octets + e.contents; contents = sym (held ∙ ap (take e.contents) cut) i }));
      fits = h.fits;
      behind = left;
      shorter = omega (arith, ap length left ∙ length-drop (e.length_octets + e.contents) behind);
    })

-- ---- the walk over all elements, one step at a time

pub walk_skip : (k : ℕ) (p : Parts) (xs : List ℕ) → k ≤ length xs → walk k p xs ≡ walk 0 p (drop k xs)
unfolding walk
walk_skip zero p [] h = refl
walk_skip (suc k) p [] h = absurd (omega arith)
walk_skip zero p (x ∷ xs) h = refl
walk_skip (suc k) p (x ∷ xs) h = walk_skip k p xs (omega arith)

pub walk_stop : (p : Parts) (xs : List ℕ) (r : Refusal) → Stopped xs r → walk 0 p xs ≡ Err (refusal_number r)
unfolding walk
walk_stop p [] r h = absurd (omega (arith, h.some))
walk_stop p (x ∷ xs) r h = ap (λ e. then e (λ y. then (noted p x y.contents) (λ q. walk y.size q xs))) h.fault

module _ (p : Parts) (e : Element) (ys : List ℕ) where
  -- the walk, once the element at the front is known
  walk_at : (xs : List ℕ) (h : Passed xs e ys) → walk 0 p xs ≡ then (noted p e.identifier e.contents.now) (λ q. walk h.size q (drop 1 xs))
  unfolding walk
  walk_at [] h = absurd (omega (arith, h.shorter))
  walk_at (x ∷ xs) h =
      ap (λ y. then y (λ z. then (noted p x z.contents) (λ q. walk z.size q xs))) h.extent
      ∙ ap (λ k. then (noted p k e.contents.now) (λ q. walk h.size q xs)) (sym h.first)

  pub walk_refuse : (xs : List ℕ) (n : ℕ) → Passed xs e ys → noted p e.identifier e.contents.now ≡ Err n → walk 0 p xs ≡ Err n
  walk_refuse xs n h m = walk_at xs h ∙ ap (λ r. then r (λ q. walk h.size q (drop 1 xs))) m

  pub walk_step : (xs : List ℕ) (q : Parts) → Passed xs e ys → noted p e.identifier e.contents.now ≡ Ok q → walk 0 p xs ≡ walk 0 q ys
  walk_step xs q h m =
      walk_at xs h ∙ ap (λ r. then r (λ z. walk h.size z (drop 1 xs))) m
      ∙ walk_skip h.size q (drop 1 xs) h.fits
      ∙ ap (walk 0 q) (sym h.behind)

-- what the walk makes of one step of the reader
pub ruleset walk_laws = (walk_stop, walk_refuse, walk_step)

-- ---- the whole message, once its header is known

pub read_refused : (xs : List ℕ) (n : ℕ) → header xs ≡ Err n → read xs ≡ Err n
read_refused xs n h = ap (λ r. then r (λ k. then (walk 0 nothing (drop (6 + k) xs)) (judged (take k (drop 6 xs))))) h

-- the elements, as the code splits them off behind a payload of n octets
pub elements_split : (xs : List ℕ) (n : ℕ) → drop n (drop 6 xs) ≡ drop (6 + n) xs
elements_split xs n = drop-drop n 6 xs

-- What the steps of the reader promise.
use Rattle.std.specs.Prelude.{◌≡◌, ℕ, ◌+◌, ◌<◌, ◌≤◌, List, [], length, drop, Some, None, Ok, Option}
use Rattle.nas.specs.declared.element.Element.{Element}
use Rattle.nas.specs.declared.element.Extent.{Extent}
use Rattle.codes.specs.declared.refusal.Refusal.{Refusal}
use Rattle.codes.specs.Refusals.{refuse}
use Rattle.nas.specs.Elements.{octet, octets_of_length, contents_length, element}

-- e is what the element with the first octet x takes of the octets behind it
pub record Extends (x : ℕ) (behind : List ℕ) (e : Extent) : Type 0 where
  pub known : 16 ≤ x
  pub lead : e.length_octets ≡ octets_of_length x
  pub body : e.contents ≡ contents_length x behind
  pub fits : e.length_octets + e.contents ≤ length behind

-- the element e stands at the front of xs, and ys is what follows it
pub record Passed (xs : List ℕ) (e : Element) (ys : List ℕ) : Type 0 where
  pub size : ℕ
  pub first : e.identifier ≡ octet xs 0
  pub extent : element (octet xs 0) (drop 1 xs) ≡ Ok (record { size = size; contents = e.contents.now })
  pub fits : size ≤ length (drop 1 xs)
  pub behind : ys ≡ drop size (drop 1 xs)
  pub shorter : length ys < length xs

-- the octets at the front of xs are refused as an element
pub record Stopped (xs : List ℕ) (r : Refusal) : Type 0 where
  pub some : 0 < length xs
  pub fault : element (octet xs 0) (drop 1 xs) ≡ refuse r

abbrev pub Stepped : List ℕ → Option Element → List ℕ → Type 0
Stepped xs None ys = xs ≡ []
Stepped xs (Some e) ys = Passed xs e ys

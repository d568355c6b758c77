-- What is read of a message is in bounds.
use Rattle.std.proofs.Common.{◌≡◌, ℕ, ◌+◌, ◌<◌, ◌≤◌, true, ◌&&◌, List, length, take, drop, Some, None, Ok, Option, ap, sym, ◌∙◌, arith}
use Rattle.std.proofs.lemmas.List.{length-drop, length-take-le}
use Rattle.std.proofs.lemmas.Bool.{and_parts}
use Rattle.std.proofs.lemmas.Bool.Decides.{nat_tests}
use Rattle.nas.specs.Uplinks.{Parts, Message, nothing, in_range, old_fits, request_fits, walk, judged_at, judged, header, read}
use Rattle.nas.proofs.Accepted.{then_ok, if_ok}

-- what a header says of the payload's length, and that the payload is there
header_bounds : (xs : List ℕ) (n : ℕ) → header xs ≡ Ok n → (0 < n) × (n ≤ 2048) × (6 + n ≤ length xs)
header_bounds xs n h =
    let fits : 6 + n ≤ length xs = grind (arith, nat_tests) in
    let some : 0 < n = grind (arith, nat_tests) in
    let few : n ≤ 2048 = grind (arith, nat_tests) in
    (some, few, fits)

-- the payload of a message is the octets that it was judged with
judged_is : (payload : List ℕ) (p : Parts) (m : Message) → judged payload p ≡ Ok m → (m.payload ≡ payload) × (in_range m.session ≡ true)
judged_is payload p m h = go p.session h
  where
    go : (o : Option ℕ) → judged_at payload p o ≡ Ok m → (m.payload ≡ payload) × (in_range m.session ≡ true)
    go None e = absurd (cc)
    go (Some s) e =
        let sessions = if_ok (in_range s && old_fits s p.old) _ _ m e in
        let request = if_ok (request_fits p.request) _ _ m sessions.1 in
        let same : s ≡ m.session = cc in
        (cc, ap in_range (sym same) ∙ (and_parts (in_range s) (old_fits s p.old) sessions.0).0)

-- where the octets xs are read as m
module _ (xs : List ℕ) (m : Message) (h : read xs ≡ Ok m) where
  parts : (n : ℕ) × (header xs ≡ Ok n) × (m.payload ≡ take n (drop 6 xs)) × (in_range m.session ≡ true)
  parts =
      let n = then_ok (header xs) _ m h in
      let p = then_ok (walk 0 nothing (drop (6 + n.0) xs)) _ m n.2 in
      let j = judged_is (take n.0 (drop 6 xs)) p.0 m p.2 in
      (n.0, n.1, j.0, j.1)

  payload_length : length m.payload ≡ parts.0
  payload_length =
      let b = header_bounds xs parts.0 parts.1 in
      ap length parts.2 ∙ length-take-le parts.0 (drop 6 xs) (omega (arith, length-drop 6 xs, b.2))

  pub payload_some : 0 < length m.payload
  payload_some = omega (arith, payload_length, (header_bounds xs parts.0 parts.1).0)

  pub payload_few : length m.payload ≤ 2048
  payload_few = omega (arith, payload_length, (header_bounds xs parts.0 parts.1).1)

  pub session_in_range : in_range m.session ≡ true
  session_in_range = parts.3

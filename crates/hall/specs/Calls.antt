-- What the words behind a verb ask of the router.
use Rattle.std.specs.Prelude.{ℕ, cond, ◌&&◌, not, List, length, is_some, Some, None, codes, Option, ◌==◌, nat_lt, drop, vec_items}
use Rattle.std.specs.Option.{option_map, unwrap_or}
use Rattle.std.specs.Str.{bytes_eq}
use Rattle.hosts.specs.declared.lengths.Lengths.{Lengths}
use Rattle.stores.specs.declared.pdu_session.PduSession.{PduSession}
use Rattle.scenario.specs.Number.{number_in}
use Rattle.scenario.specs.Octets.{octets_in}
use Rattle.hall.specs.declared.call.Call as code
use Rattle.hall.specs.declared.call.Call.TheVariants as codes_of
use Rattle.hall.specs.declared.parse_call.GivenLengths.{GivenLengths}
use Rattle.hall.specs.Changes.{where_some, byte_in, at, of_one}
use Rattle.hall.specs.Numerals.{u32_in}

pub data Call : Type 0 where
  receive : ℕ → List ℕ → Lengths → Call
  payload : ℕ → ℕ → Call
  taken : ℕ → Call
  failed : ℕ → Lengths → Call
  park : ℕ → Call
  pick : ℕ → Call
  released : PduSession → Call
  find : PduSession → Call

-- what a call of the code stands for
abbrev pub called : code.Call → Call
called (codes_of.Receive r) = receive r.ue (vec_items r.message) r.lengths
called (codes_of.Payload n pool) = payload n pool
called (codes_of.Taken n) = taken n
called (codes_of.Failed n lengths) = failed n lengths
called (codes_of.Park n) = park n
called (codes_of.Pick n) = pick n
called (codes_of.Released p) = released p
called (codes_of.Find p) = find p

-- the UE that it names, if it names one
abbrev pub ue_named : Call → Option ℕ
ue_named (receive ue message lengths) = Some ue
ue_named (payload n pool) = None
ue_named (taken n) = None
ue_named (failed n lengths) = None
ue_named (park n) = None
ue_named (pick n) = None
ue_named (released p) = Some p.ue
ue_named (find p) = Some p.ue

-- ---- lengths of buffers, which come in any order, and each once

abbrev pub none_given : GivenLengths
none_given = record { output = None; pool = None }

abbrev pub given_with : GivenLengths → List ℕ → ℕ → Option GivenLengths
given_with g name n =
    cond (not (is_some g.output) && bytes_eq name (codes "output")) (Some (record { output = Some n; pool = g.pool }))
    (cond (not (is_some g.pool) && bytes_eq name (codes "pool")) (Some (record { output = g.output; pool = Some n })) None)

abbrev pub with_length : GivenLengths → List ℕ → List ℕ → Option GivenLengths
with_length g name n = where_some (number_in n) (λ k. given_with g name k)

abbrev pub lengths_in : List (List ℕ) → Option GivenLengths
lengths_in words =
    cond (length words == 0) (Some none_given)
    (cond (length words == 2) (with_length none_given (at words 0) (at words 1))
    (cond (length words == 4) (where_some (with_length none_given (at words 0) (at words 1)) (λ g. with_length g (at words 2) (at words 3))) None))

-- those that are not given are the usual ones
abbrev pub or_usual : GivenLengths → Lengths
or_usual g = record { output = unwrap_or g.output 4096; pool = unwrap_or g.pool 32768 }

-- ---- the commands

abbrev pub receive_of : List ℕ → List ℕ → List (List ℕ) → Option Call
receive_of u m rest =
    where_some (u32_in u) (λ ue. where_some (lengths_in rest) (λ g. where_some (octets_in m) (λ message. Some (receive ue message (or_usual g)))))

abbrev pub receive_words : List (List ℕ) → Option Call
receive_words words = cond (nat_lt (length words) 2) None (receive_of (at words 0) (at words 1) (drop 2 words))

-- no output is lent to it
abbrev pub payload_with : ℕ → GivenLengths → Option Call
payload_with n g = cond (is_some g.output) None (Some (payload n (or_usual g).pool))

abbrev pub payload_words : List (List ℕ) → Option Call
payload_words words =
    cond (nat_lt (length words) 1) None (where_some (u32_in (at words 0)) (λ n. where_some (lengths_in (drop 1 words)) (payload_with n)))

abbrev pub failed_words : List (List ℕ) → Option Call
failed_words words =
    cond (nat_lt (length words) 1) None (where_some (u32_in (at words 0)) (λ n. where_some (lengths_in (drop 1 words)) (λ g. Some (failed n (or_usual g)))))

-- the number of a ticket
abbrev pub ticket_in : List (List ℕ) → Option ℕ
ticket_in words = of_one u32_in words

abbrev pub taken_words : List (List ℕ) → Option Call
taken_words words = option_map taken (ticket_in words)

abbrev pub park_words : List (List ℕ) → Option Call
park_words words = option_map park (ticket_in words)

abbrev pub pick_words : List (List ℕ) → Option Call
pick_words words = option_map pick (ticket_in words)

abbrev pub session_of : List ℕ → List ℕ → Option PduSession
session_of u k = where_some (u32_in u) (λ ue. where_some (byte_in k) (λ id. Some (record { ue = ue; id = id })))

abbrev pub session_in : List (List ℕ) → Option PduSession
session_in words = cond (length words == 2) (session_of (at words 0) (at words 1)) None

abbrev pub released_words : List (List ℕ) → Option Call
released_words words = option_map released (session_in words)

abbrev pub find_words : List (List ℕ) → Option Call
find_words words = option_map find (session_in words)

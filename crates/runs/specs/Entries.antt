-- Calls with their answers, as they stand in a list of calls, and what the account is fed of them.
use Rattle.std.specs.Prelude.{ℕ, List, Option, Result, is_err, map}
use Rattle.accounts.specs.Receives.{Opening, Received, Answer}
use Rattle.accounts.specs.Accounts as fed
use Rattle.accounts.specs.Accounts.{Account, Event, account}
use Rattle.runs.specs.Models.{Token}

-- A call: its arguments, buffers by their lengths, and its answer with the octets that it wrote or handed out. A refusal stands as its number.
pub data Entry : Type 0 where
  -- with the SMF that a directory chose, if it was asked and chose one, and with the ticket that was given, if one was
  receive : Received → Option ℕ → Option Token → Result Answer ℕ → Entry
  -- the pool's length, and a ticket
  payload : ℕ → Token → Result (List ℕ) ℕ → Entry
  taken : Token → Result (Unit {0}) ℕ → Entry
  -- the lengths of the pool and of the output, and a ticket
  failed : ℕ → ℕ → Token → Result (List ℕ) ℕ → Entry
  park : Token → Result ℕ ℕ → Entry
  pick : ℕ → Result Token ℕ → Entry
  -- a UE and a session
  released : ℕ → ℕ → Result (Unit {0}) ℕ → Entry

-- what the account is fed: the arguments, the directory's choice, and whether it was refused
abbrev pub event : Entry → Event
event (receive r chosen ticket a) = record { call = fed.receive r chosen; refused = is_err a }
event (payload n t a) = record { call = fed.other; refused = is_err a }
event (taken t a) = record { call = fed.taken t.number; refused = is_err a }
event (failed n w t a) = record { call = fed.failed t.number; refused = is_err a }
event (park t a) = record { call = fed.other; refused = is_err a }
event (pick n a) = record { call = fed.other; refused = is_err a }
event (released u k a) = record { call = fed.released u k; refused = is_err a }

-- the account of these calls, the latest first
abbrev pub account_of : Opening → List Entry → Account
account_of o es = account o (map event es)

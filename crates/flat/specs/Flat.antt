-- The rows of a flat store, and the contexts in them.
use Rattle.std.specs.Prelude.{ℕ, Bool, not, ◌&&◌, ◌||◌, List, length, is_some, Some, None, Option, nat_lt}
use Rattle.std.specs.List.{filter_map}
use Rattle.stores.specs.declared.context.Context.{Context}
use Rattle.stores.specs.declared.pdu_session.PduSession.{PduSession}
use Rattle.stores.specs.Contexts.{pair_fits, lookup}
use Rattle.flat.specs.declared.context_row.ContextRow.{ContextRow}

abbrev pub mk_pair : ℕ → ℕ → PduSession
mk_pair u k = record { ue = u; id = k }

abbrev pub pair_in : Option Context → PduSession
pair_in None = mk_pair 0 0
pair_in (Some c) = mk_pair c.ue c.session

abbrev pub is_free : ContextRow → Bool
is_free x = not (is_some x.held)

-- the key of a row: the session of its context
abbrev pub pair_of : ContextRow → PduSession
pair_of x = pair_in x.held

-- the contexts in the rows
abbrev pub held_in : List ContextRow → List Context
held_in xs = filter_map (λ x. x.held) xs

-- room for session k of UE u: it is held, or a row is free, so that there are fewer contexts than rows
abbrev pub room_in : List ContextRow → ℕ → ℕ → Bool
room_in xs u k = pair_fits u k && (is_some (lookup (held_in xs) u k) || nat_lt (length (held_in xs)) (length xs))

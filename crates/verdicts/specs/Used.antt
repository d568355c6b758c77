-- The slice and the DNN that a verdict goes by.
use Rattle.std.specs.Prelude.{◌≡◌, ℕ, true, false, cond, Some, None, Option, unwrap_or, option_map}
use Rattle.std.specs.Option.{option_or}
use Rattle.codes.specs.declared.request_type.RequestType.TheVariants.{Initial}
use Rattle.codes.specs.declared.slice_dnn.SliceDnn.{SliceDnn}
use Rattle.stores.specs.declared.context.Context.{Context}
use Rattle.records.specs.Firsts.{default_slice, default_dnn}
use Rattle.verdicts.specs.Cases.{Asked, requests, for_emergency}

-- the context whose slice and DNN stand for those that the message does not name: o, unless the request is initial
abbrev pub kept : Asked → Option Context → Option Context
kept a o = cond (requests Initial a) None o

-- what is named; else what the context has; else what a line says; else what the core has
abbrev pub first_of : Option ℕ → Option ℕ → Option ℕ → ℕ → ℕ
first_of named held line core = unwrap_or (option_or (option_or named held) line) core

-- by the context o and the first default-slice line
abbrev pub slice_used : Asked → Option Context → ℕ
slice_used a o = first_of a.slice (option_map (λ c. c.slice) o) (default_slice a.ue) a.configuration.default.slice

-- by the context o and the first default-DNN line of slice s
abbrev pub dnn_used : Asked → Option Context → ℕ → ℕ
dnn_used a o s = first_of a.dnn (option_map (λ c. c.dnn) o) (default_dnn a.ue s) a.configuration.default.dnn

abbrev pub common_used : Asked → Option Context → SliceDnn
common_used a o = record { slice = slice_used a o; dnn = dnn_used a o (slice_used a o) }

-- those of emergency sessions, if such a session is asked for
abbrev pub used : Asked → Option Context → SliceDnn
used a o = cond (for_emergency a) a.configuration.emergency (common_used a (kept a o))

-- What holds of the slice and the DNN used, in other words: u are those for what is asked by a, of a session that has the context o.
pub record Uses (a : Asked) (o : Option Context) (u : SliceDnn) : Type 0 where
  -- they are those that the definition gives
  pub value : u ≡ used a o
  -- for an emergency session, those of the core, whatever is named and whatever stands
  pub emergency : for_emergency a ≡ true → u ≡ a.configuration.emergency
  -- else what is named is used
  pub named_slice : for_emergency a ≡ false → (s : ℕ) → a.slice ≡ Some s → u.slice ≡ s
  pub named_dnn : for_emergency a ≡ false → (n : ℕ) → a.dnn ≡ Some n → u.dnn ≡ n
  -- what is not named is as the context has it,
  pub kept_slice : for_emergency a ≡ false → requests Initial a ≡ false → (x : Context) → o ≡ Some x → a.slice ≡ None → u.slice ≡ x.slice
  pub kept_dnn : for_emergency a ≡ false → requests Initial a ≡ false → (x : Context) → o ≡ Some x → a.dnn ≡ None → u.dnn ≡ x.dnn
  -- but for an initial request, for which no context matters
  pub initial : requests Initial a ≡ true → u ≡ used a None

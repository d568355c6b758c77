-- What the lines of a UE record say. Where several lines would do, the first counts.
use Rattle.std.specs.Prelude.{ℕ, Bool, ◌&&◌, Option, option_map, ◌==◌}
use Rattle.std.specs.List.{find, list_any}
use Rattle.records.specs.Records.{Ue}

-- the slice of the first default-slice line
abbrev pub default_slice : Ue → Option ℕ
default_slice u = option_map (λ l. l.slice) (find (λ l. l.default_slice) u.subscriptions)

-- the DNN of the first default-DNN line of slice s
abbrev pub default_dnn : Ue → ℕ → Option ℕ
default_dnn u s = option_map (λ l. l.dnn) (find (λ l. l.default_dnn && l.slice == s) u.subscriptions)

-- an allowed line has slice s
abbrev pub allows : Ue → ℕ → Bool
allows u s = list_any (λ l. l.allowed && l.slice == s) u.subscriptions

-- the SMF of the first known line of session k
abbrev pub known_session : Ue → ℕ → Option ℕ
known_session u k = option_map (λ l. l.smf) (find (λ l. l.session == k) u.known)

-- the SMF of the first known line of DNN n
abbrev pub known_dnn : Ue → ℕ → Option ℕ
known_dnn u n = option_map (λ l. l.smf) (find (λ l. l.dnn == n) u.known)

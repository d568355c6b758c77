-- UE records: what they hold, and which are in bounds.
use Rattle.std.specs.Prelude.{ℕ, Bool, ◌&&◌, List, length, nat_lt, nat_le}
use Rattle.std.specs.List.{list_all}
use Rattle.codes.specs.Sessions.{session_fits}
use Rattle.records.specs.declared.known_line.KnownLine.{KnownLine}
use Rattle.records.specs.declared.subscription_line.SubscriptionLine.{SubscriptionLine}
use Rattle.records.specs.declared.ue_record.UeRecord.{UeRecord}

-- what is told of a UE, with lists in place of lent slices
pub record Ue : Type 0 where
  pub number : ℕ
  pub high_priority : Bool
  pub awaits_registration : Bool
  pub session_limit : ℕ
  pub subscriptions : List SubscriptionLine
  pub known : List KnownLine

abbrev pub plain : UeRecord → Ue
plain r = record { number = r.number; high_priority = r.high_priority; awaits_registration = r.awaits_registration; session_limit = r.session_limit; subscriptions = r.subscriptions.now; known = r.known.now }

-- a book of n names has one of number d; names are numbered from 1
abbrev pub in_book : ℕ → ℕ → Bool
in_book n d = nat_lt 0 d && nat_le d n

abbrev pub subscription_fits : ℕ → SubscriptionLine → Bool
subscription_fits n l = in_book n l.dnn

abbrev pub known_fits : ℕ → KnownLine → Bool
known_fits n l = session_fits l.session && (in_book n l.dnn && nat_lt 0 l.smf)

-- how many sessions a UE may have
abbrev pub limit_fits : ℕ → Bool
limit_fits n = nat_lt 0 n && nat_lt n 16

-- A UE number is at least 1, and a session limit 1 to 15. There are 32 subscription lines and 15 known lines at most,
-- which name DNNs of the book, sessions of 1 to 15, and SMF IDs of at least 1.
abbrev pub record_fits : ℕ → Ue → Bool
record_fits n u =
    nat_lt 0 u.number && (limit_fits u.session_limit && (nat_le (length u.subscriptions) 32 && (nat_le (length u.known) 15 && (list_all (subscription_fits n) u.subscriptions && list_all (known_fits n) u.known))))

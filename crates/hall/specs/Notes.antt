-- What the words behind `ue`, `subscribe` and `know` put on record.
use Rattle.std.specs.Prelude.{ℕ, Bool, true, false, cond, ◌&&◌, not, List, length, Some, None, codes, Option, ◌==◌, nat_lt, drop}
use Rattle.std.specs.Str.{bytes_eq}
use Rattle.records.specs.declared.subscription_line.SubscriptionLine.{SubscriptionLine}
use Rattle.scenario.specs.Slice.{slice_in}
use Rattle.hall.specs.declared.ue_note.UeMarks.{UeMarks}
use Rattle.hall.specs.declared.ue_note.UeNote.{UeNote}
use Rattle.hall.specs.declared.ue_note.UeNote.TheVariants.{Begin, Subscribe, Know}
use Rattle.hall.specs.Changes.{where_some, byte_in, at}
use Rattle.hall.specs.Numerals.{u32_in}

-- ---- marks, which come in any order, and each once

-- what up to two words make of x, one after the other
abbrev pub by_two : {X : Type 0} → (X → List ℕ → Option X) → X → List (List ℕ) → Option X
by_two f x words =
    cond (length words == 0) (Some x)
    (cond (length words == 1) (f x (at words 0))
    (cond (length words == 2) (where_some (f x (at words 0)) (λ y. f y (at words 1))) None))

-- up to three
abbrev pub by_three : {X : Type 0} → (X → List ℕ → Option X) → X → List (List ℕ) → Option X
by_three f x words =
    cond (length words == 3) (where_some (f x (at words 0)) (λ y. where_some (f y (at words 1)) (λ z. f z (at words 2))))
    (by_two f x words)

abbrev pub no_marks : UeMarks
no_marks = record { high_priority = false; awaits_registration = false }

-- the marks with the one more that a word is
abbrev pub ue_mark : UeMarks → List ℕ → Option UeMarks
ue_mark m word =
    cond (not m.high_priority && bytes_eq word (codes "high")) (Some (record { high_priority = true; awaits_registration = m.awaits_registration }))
    (cond (not m.awaits_registration && bytes_eq word (codes "waiting")) (Some (record { high_priority = m.high_priority; awaits_registration = true })) None)

abbrev pub with_marks : SubscriptionLine → Bool → Bool → Bool → SubscriptionLine
with_marks l s d a = record { slice = l.slice; dnn = l.dnn; default_slice = s; default_dnn = d; allowed = a }

abbrev pub line_mark : SubscriptionLine → List ℕ → Option SubscriptionLine
line_mark l word =
    cond (not l.default_slice && bytes_eq word (codes "slice")) (Some (with_marks l true l.default_dnn l.allowed))
    (cond (not l.default_dnn && bytes_eq word (codes "dnn")) (Some (with_marks l l.default_slice true l.allowed))
    (cond (not l.allowed && bytes_eq word (codes "allowed")) (Some (with_marks l l.default_slice l.default_dnn true)) None))

-- ---- the commands

abbrev pub ue_of : List ℕ → List ℕ → List (List ℕ) → Option UeNote
ue_of n l marks =
    where_some (u32_in n) (λ ue. where_some (byte_in l) (λ limit. where_some (by_two ue_mark no_marks marks) (λ m. Some (Begin ue limit m))))

abbrev pub ue_words : List (List ℕ) → Option UeNote
ue_words words = cond (nat_lt (length words) 2) None (ue_of (at words 0) (at words 1) (drop 2 words))

abbrev pub unmarked : ℕ → ℕ → SubscriptionLine
unmarked slice dnn = record { slice = slice; dnn = dnn; default_slice = false; default_dnn = false; allowed = false }

abbrev pub subscribe_of : List ℕ → List ℕ → List ℕ → List (List ℕ) → Option UeNote
subscribe_of u s n marks =
    where_some (u32_in u) (λ ue. where_some (slice_in s) (λ slice. where_some (byte_in n) (λ dnn.
    where_some (by_three line_mark (unmarked slice dnn) marks) (λ line. Some (Subscribe ue line)))))

abbrev pub subscribe_words : List (List ℕ) → Option UeNote
subscribe_words words = cond (nat_lt (length words) 3) None (subscribe_of (at words 0) (at words 1) (at words 2) (drop 3 words))

abbrev pub know_of : List ℕ → List ℕ → List ℕ → List ℕ → Option UeNote
know_of u k n m =
    where_some (u32_in u) (λ ue. where_some (byte_in k) (λ session. where_some (byte_in n) (λ dnn. where_some (byte_in m) (λ smf.
    Some (Know ue (record { session = session; dnn = dnn; smf = smf }))))))

abbrev pub know_words : List (List ℕ) → Option UeNote
know_words words = cond (length words == 4) (know_of (at words 0) (at words 1) (at words 2) (at words 3)) None

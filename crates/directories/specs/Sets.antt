-- The sets of a turning directory: whose they are, and who serves by them.
use Rattle.std.specs.Prelude.{◌≡◌, ℕ, ◌-◌, ◌<◌, Bool, true, false, not, ◌&&◌, ◌||◌, List, length, ◌==◌, nat_le, nat_lt, slice_index_or, slice_set, replicate, All, HoldsAt, AllPairs}
use Rattle.std.specs.List.{list_any}
use Rattle.codes.specs.declared.slice_dnn.SliceDnn.{SliceDnn}
use Rattle.directories.specs.declared.served_set.ServedSet.{ServedSet}
use Rattle.directories.specs.declared.service_line.ServiceLine.{ServiceLine}
use Rattle.directories.specs.Lines.{capacity, numbered, good_line}

-- by the set, its SMF serves slice s and DNN n
abbrev pub set_for : ServedSet → ℕ → ℕ → Bool
set_for x s n = x.slice == s && (numbered n && slice_index_or x.numbers (n - 1) false)

abbrev pub set_serves : ServedSet → ℕ → ℕ → ℕ → Bool
set_serves x s n m = set_for x s n && x.smf == m

abbrev pub sets_serve : List ServedSet → ℕ → ℕ → ℕ → Bool
sets_serve sets s n m = list_any (λ x. set_serves x s n m) sets

-- by the sets, SMF m serves what is wanted
abbrev pub serve_wanted : List ServedSet → SliceDnn → ℕ → Bool
serve_wanted sets w = sets_serve sets w.slice w.dnn

-- the set is that of slice s and SMF m
abbrev pub is_pair : ServedSet → ℕ → ℕ → Bool
is_pair x s m = x.slice == s && x.smf == m

-- the set with DNN n too
abbrev pub with_dnn : ServedSet → ℕ → ServedSet
with_dnn x n = record { slice = x.slice; smf = x.smf; numbers = slice_set x.numbers (n - 1) true }

-- the set of the line's slice and SMF, with no DNN, and with the line's alone
abbrev pub empty_of : ServiceLine → ServedSet
empty_of l = record { slice = l.slice; smf = l.smf; numbers = replicate 64 false }

abbrev pub set_of : ServiceLine → ServedSet
set_of l = with_dnn (empty_of l) l.dnn

-- the line is one of slice s and SMF m
abbrev pub line_pair : ServiceLine → ℕ → ℕ → Bool
line_pair l s m = l.slice == s && l.smf == m

abbrev pub holds_pair : List ServedSet → ℕ → ℕ → Bool
holds_pair sets s m = list_any (λ x. is_pair x s m) sets

-- no set is of slice s and SMF m
abbrev pub NoPair : List ServedSet → ℕ → ℕ → Type 0
NoPair sets s m = All (λ x. is_pair x s m ≡ false) sets

-- set i is
abbrev pub PairAt : List ServedSet → ℕ → ℕ → ℕ → Type 0
PairAt sets s m i = (i < length sets) × HoldsAt (λ x. is_pair x s m ≡ true) sets i

-- no two sets are of the same slice and SMF
abbrev pub Apart : List ServedSet → Type 0
Apart sets = AllPairs (λ x y. is_pair x y.slice y.smf ≡ false) sets

-- the set is not of SMF 0, and says of 64 DNNs whether they are served
abbrev pub good_set : ServedSet → Bool
good_set x = nat_lt 0 x.smf && length x.numbers == 64

-- what a directory with these sets refuses: a bad line, and one pair more than there may be
abbrev pub sets_refuse : List ServedSet → ServiceLine → Bool
sets_refuse sets l = not (good_line l) || (not (holds_pair sets l.slice l.smf) && nat_le capacity (length sets))

-- The number of each cause, and the back-off octet of those that carry one.
use Rattle.std.specs.Prelude.{ℕ, Some, None, Option}
use Rattle.codes.specs.declared.cause.Cause.{Cause}
use Rattle.codes.specs.declared.cause.Cause.TheVariants.{Congestion, MaximumSessions, SliceAndDnnCongestion, SliceCongestion, NotForwarded, DnnNotSupported}

abbrev pub cause_number : Cause → ℕ
cause_number (Congestion b) = 22
cause_number MaximumSessions = 65
cause_number (SliceAndDnnCongestion b) = 67
cause_number (SliceCongestion b) = 69
cause_number NotForwarded = 90
cause_number DnnNotSupported = 91

abbrev pub back_off_octet : Cause → Option ℕ
back_off_octet (Congestion b) = Some b
back_off_octet MaximumSessions = None
back_off_octet (SliceAndDnnCongestion b) = Some b
back_off_octet (SliceCongestion b) = Some b
back_off_octet NotForwarded = None
back_off_octet DnnNotSupported = None

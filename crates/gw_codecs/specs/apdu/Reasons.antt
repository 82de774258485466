-- The reasons of rejects and aborts by their names (ISO 16484-5, clause 21, BACnetRejectReason and
-- BACnetAbortReason).
use Rattle.std.specs.Prelude.{ℕ}

abbrev pub inconsistent_parameters : ℕ
inconsistent_parameters = 2

abbrev pub invalid_tag : ℕ
invalid_tag = 4

abbrev pub missing_required_parameter : ℕ
missing_required_parameter = 5

abbrev pub parameter_out_of_range : ℕ
parameter_out_of_range = 6

abbrev pub too_many_arguments : ℕ
too_many_arguments = 7

abbrev pub unrecognized_service : ℕ
unrecognized_service = 9

abbrev pub segmentation_not_supported : ℕ
segmentation_not_supported = 4

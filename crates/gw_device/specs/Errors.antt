-- Why the device doesn't do what it is asked for: the class and the code of each fault
-- (ISO 16484-5, clause 18), and the reason of a reject (clause 21). Which fault has which is this
-- project's choice.
use Rattle.std.specs.Prelude.{ℕ}
use Rattle.gw_codecs.specs.declared.apdu.writing.ServiceError.{ServiceError}
use Rattle.gw_codecs.specs.apdu.Reasons.{invalid_tag, missing_required_parameter, parameter_out_of_range, too_many_arguments}
use Rattle.gw_codecs.specs.apdu.Reasons.{inconsistent_parameters}
use Rattle.gw_objects.specs.declared.fault.ReadFault.{ReadFault}
use Rattle.gw_objects.specs.declared.fault.ReadFault.TheVariants as read
use Rattle.gw_objects.specs.declared.fault.WriteFault.{WriteFault}
use Rattle.gw_objects.specs.declared.fault.WriteFault.TheVariants as write
use Rattle.gw_codecs.specs.declared.services.fault.BodyFault.{BodyFault}
use Rattle.gw_codecs.specs.declared.services.fault.BodyFault.TheVariants.{InvalidTag, Missing, OutOfRange, TooMany}
use Rattle.gw_codecs.specs.declared.services.fault.BodyFault.TheVariants.{Inconsistent, Memory}

-- ---- classes (clause 18.1)

abbrev pub object_class : ℕ
object_class = 1

abbrev pub property_class : ℕ
property_class = 2

abbrev pub resources_class : ℕ
resources_class = 3

-- a class and a code
abbrev pub error_of : ℕ → ℕ → ServiceError
error_of class code = record { class = class; code = code }

-- ---- errors

-- the policy denies the read: READ_ACCESS_DENIED
abbrev pub read_denied : ServiceError
read_denied = error_of property_class 27

-- the policy denies the write: WRITE_ACCESS_DENIED
abbrev pub write_denied : ServiceError
write_denied = error_of property_class 40

-- UNKNOWN_OBJECT and UNKNOWN_PROPERTY
abbrev pub unknown_object : ServiceError
unknown_object = error_of object_class 31

abbrev pub unknown_property : ServiceError
unknown_property = error_of property_class 32

-- PROPERTY_IS_NOT_AN_ARRAY
abbrev pub not_an_array : ServiceError
not_an_array = error_of property_class 50

-- NO_SPACE_TO_WRITE_PROPERTY
abbrev pub no_space : ServiceError
no_space = error_of resources_class 20

-- why a property isn't read (clause 15.5); want of memory is never due
abbrev pub read_error : ReadFault → ServiceError
read_error read.UnknownObject = unknown_object
read_error read.UnknownProperty = unknown_property
read_error read.NotArray = not_an_array
read_error read.BadIndex = error_of property_class 42
read_error read.Memory = no_space

-- why a property isn't written (clause 15.9); want of memory is never due
abbrev pub write_error : WriteFault → ServiceError
write_error write.UnknownObject = unknown_object
write_error write.UnknownProperty = unknown_property
write_error write.NotWritable = error_of property_class 40
write_error write.NotArray = not_an_array
write_error write.Reserved = error_of property_class 40
write_error write.WrongKind = error_of property_class 9
write_error write.CharacterSet = error_of property_class 41
write_error write.OutOfRange = error_of property_class 37
write_error write.NoSpace = no_space
write_error write.Memory = no_space

-- why a confirmed request is rejected (clause 21, BACnetRejectReason); want of memory is never due
abbrev pub reject_reason : BodyFault → ℕ
reject_reason InvalidTag = invalid_tag
reject_reason Missing = missing_required_parameter
reject_reason OutOfRange = parameter_out_of_range
reject_reason TooMany = too_many_arguments
reject_reason Inconsistent = inconsistent_parameters
reject_reason Memory = 0

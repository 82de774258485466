-- What follows a value's tag.
use Rattle.gw_codecs.specs.declared.tags.body.Body.{Body as RustBody}
use Rattle.gw_codecs.specs.tags.Reading.{Body}

abbrev pub body_view : RustBody → Body
body_view body = record { low_bits = body.low_bits; count = body.count; octets = body.octets.now }

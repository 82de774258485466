-- What follows a reference, without where its octets lie in memory.
use Rattle.std.specs.Option.{option_map}
use Rattle.gw_codecs.specs.tags.Object.{object_view}
use Rattle.gw_codecs.specs.declared.services.next.Next.{Next as RustNext}
use Rattle.gw_codecs.specs.declared.services.next.Next.TheVariants.{Finished, More}
use Rattle.gw_codecs.specs.services.MultiReading.{Next, finished, more_at}

abbrev pub next_view : RustNext → Next
next_view Finished = finished
next_view (More current octets) = more_at (option_map object_view current) octets.now

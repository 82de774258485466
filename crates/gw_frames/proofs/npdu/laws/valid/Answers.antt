use Rattle.std.proofs.Common.{◌<◌, arith, inl, inr}
use Rattle.gw_frames.specs.declared.npdu.npdu.Priority.{Priority}
use Rattle.gw_frames.specs.declared.npdu.npdu.Priority.TheVariants.{Normal, Urgent, CriticalEquipment, LifeSafety}
use Rattle.gw_frames.specs.npdu.Npdu.{priority_of}
use Rattle.gw_frames.proofs.npdu.laws.valid.Goals as goal

priority_of-below : (p : Priority) → priority_of p < 4
priority_of-below Normal = omega arith
priority_of-below Urgent = omega arith
priority_of-below CriticalEquipment = omega arith
priority_of-below LifeSafety = omega arith

pub returns : goal.returns
returns c = record {
  fits = record {
    destination = c.destination_valid.ensures.fits;
    source = c.source_valid.ensures.fits;
    priority = priority_of-below c.args.npdu.now.priority;
    payload = c.payload_valid.ensures;
  };
  addressed = λ bad. elim bad [ inl destination ↦ c.destination_valid.ensures.good destination | inr source ↦ c.source_valid.ensures.good source ];
}

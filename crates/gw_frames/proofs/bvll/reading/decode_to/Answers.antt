use Rattle.std.proofs.Common.{arith}
use Rattle.gw_addr.specs.Reading.{AreOctets}
use Rattle.gw_addr.proofs.Reading.{gives_found, gives_only, gives_fault}
use Rattle.gw_frames.specs.declared.bvll.fault.BvllFault.TheVariants.{Marker, Length, Function, Body}
use Rattle.gw_frames.specs.bvll.Bvll.{view, IsBvll}
use Rattle.gw_frames.specs.bvll.Reading.{bvll_at}
use Rattle.gw_frames.specs.bvll.Shape.{IsBadMarker, IsBadLength, IsBadFunction, IsBadBody}
use Rattle.gw_frames.proofs.bvll_lemmas.Messages.{reads_as, marker_is, length_is, function_is, body_is}
use Rattle.gw_frames.proofs.bvll.reading.decode_to.Goals as goal

pub returns : goal.returns
returns c =
    let octets = c.args.octets.now in
    let r = c.message_to.new.frame in
    let given = c.message_to.ensures in
    let fits : AreOctets octets = λ i. omega (arith, c.type_inv.octets i) in
    record {
      found = gives_found view r (bvll_at octets) (IsBvll octets) given (λ m e. (reads_as octets m fits).0 e);
      only = λ m is. gives_only view r (bvll_at octets) m given ((reads_as octets m fits).1 is);
      marker = gives_fault view r (bvll_at octets) Marker (IsBadMarker octets) given (marker_is octets fits);
      size = gives_fault view r (bvll_at octets) Length (IsBadLength octets) given (length_is octets fits);
      function = gives_fault view r (bvll_at octets) Function (IsBadFunction octets) given (function_is octets fits);
      body = gives_fault view r (bvll_at octets) Body (IsBadBody octets) given (body_is octets fits);
      exact = given;
    }

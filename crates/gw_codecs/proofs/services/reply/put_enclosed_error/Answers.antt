use Rattle.std.proofs.Common.{ℕ, List, subst, arith}
use Rattle.std.proofs.lemmas.Grind.{common_steps}
use Rattle.gw_addr.specs.Reading.{Keeps}
use Rattle.gw_addr.proofs.Writing.{Keeps-front}
use Rattle.gw_codecs.specs.services.Reply.{opening}
use Rattle.gw_codecs.proofs.services.reply.put_enclosed_error.Goals as goal

pub returns-in_err-put_class_and_code : goal.returns-in_err-put_class_and_code
returns-in_err-put_class_and_code c =
    let out = c.put_class_and_code.new.out.items in
    record {
      ok = grind (arith, common_steps);
      front = Keeps-front c.args.out.now.items (opening 5) out
          (subst (λ (x : List ℕ). Keeps x out) c.in_ok-write_opening.ensures.ok c.in_err-put_class_and_code.ensures.front);
      room = grind (arith, common_steps);
      capacity = grind (arith, common_steps);
    }

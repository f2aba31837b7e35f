use Rattle.std.proofs.Common.{rules}
use Rattle.std.specs.declared.ops.ControlFlow.TheVariants.{Continue}
use Rattle.input.proofs.Bytes.{grown_bytes}
use Rattle.input.proofs.read_input.Goals as goal

pub loop-n-preserved : goal.loop-n-preserved
loop-n-preserved g c =
    let l = c.loop-n in
    let r = c.read-got in
    record {
      room = search rules;
      same_length = search rules;
      bytes =
          grown_bytes _ _ _ l.done _ r.result (Continue c.in-Continue.n) l.buffer r.new.buf _ l.invariant.room r.ensures.bound c.after_read.ensures
          (cc c.in_ok-n.was) l.invariant.bytes r.ensures.bytes;
    }

use Rattle.std.proofs.Common.{arith}
use Rattle.bw_procedures.proofs.packed.Packed.grow.Goals as goal

pub invariant_of-self : goal.invariant_of-self
invariant_of-self c =
    let old = c.self.invariant in
    let kept = c.reserve.ensures.kept in
    record {
      told = rw c.reserve.ensures.told old.told;
      small = old.small;
      within = c.reserve.ensures.within _ old.within;
      memory = record {
        marks = omega (arith, old.memory.marks, kept.marks);
        words = omega (arith, old.memory.words, kept.words);
        wholes = omega (arith, old.memory.wholes, kept.wholes);
      };
    }

pub invariant_of-self-2 : goal.invariant_of-self-2
invariant_of-self-2 c =
    let old = c.self.invariant in
    let is = c.in-Some.ensures in
    let memory = c.in_ok-reserve.ensures.memory in
    record {
      told = rw c.reserve.ensures.told old.told;
      small = omega (arith, is);
      within = c.reserve.ensures.within _ old.within;
      memory = record {
        marks = omega (arith, is, memory.marks);
        words = omega (arith, is, memory.words);
        wholes = omega (arith, is, memory.wholes);
      };
    }

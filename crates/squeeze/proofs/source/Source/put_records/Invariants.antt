-- A setting is brought in force; a shape is put behind the settings that differ.
use Rattle.std.proofs.Common.{◌-◌, length}
use Rattle.format.specs.Format.{basis_of}
use Rattle.squeeze.proofs.Walk.{Taking}
use Rattle.squeeze.proofs.source.Source.put_records.Given as goal

abbrev pub invariant-loop-place : goal.invariant-loop-place
invariant-loop-place g l =
    let t = g.T.Target in
    Taking t.end t.most t.Wrote l.initial.target (basis_of l.fn.self.header) l.list l.place l.before l.settings l.target

abbrev pub decreases-loop-place : goal.decreases-loop-place
decreases-loop-place g l = length l.list - l.place

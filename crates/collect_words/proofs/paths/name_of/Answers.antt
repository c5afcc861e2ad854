use Rattle.std.proofs.Common.{◌∙◌, ℕ, ap, sym, drop, arith}
use Rattle.collect_words.specs.Paths.{name_of}
use Rattle.collect_words.proofs.Splits.{slash_same, slash_clean, byte_clean, name_end, not_slash}
use Rattle.collect_words.proofs.paths.name_of.Goals as goal
use Rattle.collect_words.proofs.paths.name_of.Goals.{then-path-at-eq47, else-path-at-eq47}

pub loop-at-preserved : goal.loop-at-preserved
loop-at-preserved c =
    elim c.if-path-at-eq47.branch [
      | then-path-at-eq47 w ↦ record {
        within = omega (arith, w.start-is);
        same = slash_same c.args.path.now c.loop-at.start c.loop-at.at _ w.start-is c.loop-at.invariant.within (omega arith) w.if-path-at-eq47.true c.loop-at.invariant.same;
        clean = slash_clean c.args.path.now c.loop-at.at _ w.start-is;
      }
      | else-path-at-eq47 w ↦ record {
        within = omega (arith, w.start-is);
        same = c.loop-at.invariant.same ∙ ap (λ (k : ℕ). name_of (drop k c.args.path.now)) (sym w.start-is);
        clean = byte_clean c.args.path.now c.loop-at.start c.loop-at.at _ w.start-is c.loop-at.invariant.within (omega arith) (not_slash _ w.if-path-at-eq47.false) c.loop-at.invariant.clean;
      }
    ]

pub returns : goal.returns
returns c = name_end c.args.path.now c.loop-at.start c.loop-at.at (omega arith) c.loop-at.invariant.same c.loop-at.invariant.clean

use Rattle.std.proofs.Common.{◌≡◌, Bool, true, false, true≢false, sym, ◌∙◌, refl}
use Rattle.pliron_laws.specs.declared.dialect.Interface.TheVariants.{RegionBranch}
use Rattle.pliron_laws.specs.Tree.{shape_of}
use Rattle.pliron_laws.proofs.ShapeLemmas.{head_at}
use Rattle.pliron_opt_sccp.specs.OperationVisits.{either}
use Rattle.pliron_opt_sccp.proofs.reactions.reaction_to.Goals as goal

neither : (a b c : Bool) → either a (either b c) ≡ false → (a ≡ false) × (b ≡ false) × (c ≡ false)
neither true b c e = absurd (true≢false e)
neither false true c e = absurd (true≢false e)
neither false false c e = (refl, refl, e)

pub returns-then-not-is_branch : goal.returns-then-not-is_branch
unfolding shape_of
returns-then-not-is_branch g c = λ o at.
    let h = head_at c.args.ctx.now.tree c.args.op o at in
    let n = neither (g.D.ConstFoldInterface.can_fold o.head) (g.D.BranchOpFoldInterface.can_fold_branch o.head) (g.D.Dialect.has_interface o.head RegionBranch) (sym (c.reads_all.ensures o.head h) ∙ c.if-reads_all.false) in
    (n.0, n.1, λ i j. g.met.D.Dialect.names_operands.silent (shape_of g.D.HasMeaning.meaning c.args.ctx.now.tree o) i j n.2, sym (c.is_branch.ensures o.head h) ∙ c.if-not-is_branch.true)

pub returns-in-Some : goal.returns-in-Some
unfolding shape_of
returns-in-Some g c = (
  λ o at.
      let h = head_at c.args.ctx.now.tree c.args.op o at in
      let n = neither (g.D.ConstFoldInterface.can_fold o.head) (g.D.BranchOpFoldInterface.can_fold_branch o.head) (g.D.Dialect.has_interface o.head RegionBranch) (sym (c.reads_all.ensures o.head h) ∙ c.if-reads_all.false) in
      (n.0, n.1, λ i j. g.met.D.Dialect.names_operands.silent (shape_of g.D.HasMeaning.meaning c.args.ctx.now.tree o) i j n.2, sym (c.is_branch.ensures o.head h) ∙ c.if-not-is_branch.false),
  c.in-Some.ensures,
)

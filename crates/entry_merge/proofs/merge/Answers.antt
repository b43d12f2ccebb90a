use native.Mathlib.Omega.{arith}
use mathlib.Core.Path.{refl, sym, ◌∙◌}
use Rattle.entry_merge.proofs.Writing.{comes_first, comes_second, first_goes, second_goes, skip_goes}
use Rattle.entry_merge.proofs.merge.Goals as goal
use Rattle.entry_merge.proofs.merge.Goals.{then-comes_first, else-comes_first, then-slots-j-lt128, else-slots-j-lt128}

pub loop-preserved : goal.loop-preserved
loop-preserved c =
    let h = c.loop.invariant.0 in
    elim c.if-comes_first.branch [
      | then-comes_first b ↦
          (let f = comes_first _ _ _ _ _ _ (sym c.comes_first.ensures ∙ b.if-comes_first.true) in
          rw (b.t-is, b.w-is, b.i-is, b.j-is)
          (first_goes _ _ _ _ c.requires c.told-slots _ _ _ _ h f.0 f.1 _ _ b.entry_at.ensures b.subject_at.ensures _ b.write_place.ensures, omega (arith, c.loop.invariant.1)))
      | else-comes_first b ↦
          (let f = comes_second _ _ _ _ _ _ h.far-a (omega (arith, c.len.ensures.0, c.len-2.ensures.0)) (sym c.comes_first.ensures ∙ b.if-comes_first.false) in
          rw (b.t-is, b.w-is, b.i-is, b.j-is) (
            elim b.if-slots-j-lt128.branch [
              | then-slots-j-lt128 d ↦ rw (d.t-is, d.w-is)
                  (second_goes _ _ _ _ c.requires c.told-slots _ _ _ _ h f.0 f.1 d.if-slots-j-lt128.true _ _ refl d.subject_at-then-slots-j-lt128.ensures _ d.write_place-then-slots-j-lt128.ensures)
              | else-slots-j-lt128 d ↦ rw (d.t-is, d.w-is) (skip_goes _ _ _ _ c.requires c.told-slots _ _ _ _ h f.0 f.1 d.if-slots-j-lt128.false)
            ],
            omega (arith, c.loop.invariant.1),
          ))
    ]

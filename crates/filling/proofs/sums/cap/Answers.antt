-- By the two tests; what is between the caps fits an `i32`.
use mir.Facts.{to_z-of_z}
use mir.Syntax.{w32}
use mir.Val.{SFits}
use Rattle.integers.proofs.Signed.{signed}
use Rattle.tuning.proofs.Caps.{capped_low, capped_high, capped_plain, between_caps}
use Rattle.filling.proofs.sums.cap.Goals as goal

narrow : (c : goal.Else-z-ge-HIGHEST) → SFits w32 c.args.z
narrow c =
    let f = c.ranges.z in
    let b = between_caps c.args.z (simp to_z-of_z at c.if-z-le-LOWEST.false) (simp to_z-of_z at c.if-z-ge-HIGHEST.false) in
    omega signed

pub returns-then-z-le-LOWEST : goal.returns-then-z-le-LOWEST
returns-then-z-le-LOWEST c =
    let f = c.ranges.z in
    capped_low c.args.z (simp to_z-of_z at c.if-z-le-LOWEST.true)

pub returns-then-z-ge-HIGHEST : goal.returns-then-z-ge-HIGHEST
returns-then-z-ge-HIGHEST c =
    let f = c.ranges.z in
    capped_high c.args.z (simp to_z-of_z at c.if-z-le-LOWEST.false) (simp to_z-of_z at c.if-z-ge-HIGHEST.true)

pub overflow_cast-result-2 : goal.overflow_cast-result-2
overflow_cast-result-2 c = let f = c.ranges.z in simp to_z-of_z (narrow c)

pub returns : goal.returns
returns c =
    let f = c.ranges.z in
    let g = narrow c in
    simp to_z-of_z (capped_plain c.args.z (simp to_z-of_z at c.if-z-le-LOWEST.false) (simp to_z-of_z at c.if-z-ge-HIGHEST.false))

-- A quotient by 1,024 is the rounded quotient by 512.
use Rattle.blending.proofs.CodeBlend.{blend_quotient}
use Rattle.blending.proofs.even.blend_code_512.Goals as goal

pub returns : goal.returns
returns c = blend_quotient _ _ _ 512 _ c.dividend.ensures

-- Blending in light.
use Rattle.numbers.proofs.Nearest as rounding
use Rattle.lights.specs.Lights.{light_of}
use Rattle.blending.specs.Blend.{blended_light, blend}
use Rattle.blending.proofs.Nearest.{nearest_unique}
use Rattle.blending.proofs.Blend.{blend-nearest, blend-within, blend-whole, blend-none}
use Rattle.blending.proofs.Same.{blend-same}
use Rattle.lights.proofs.Rising.{fit_facts}
use Rattle.lights.proofs.Codes.{codes-fit, widest-codes, span_codes}
use Rattle.blending.proofs.CodeBlend.{code-within}
use Rattle.blending.proofs.EvenSteps.{blend-codes, blend-even}
use Rattle.theorems.specs.Blending.{Blending}

pub blending : Blending
blending =
    record {
      blend-nearest = blend-nearest;
      blend_only =
          λ lights u v n d c p.
          nearest_unique (light_of lights) 255 (blended_light (light_of lights) u v n d) d c (blend lights u v n d) p (blend-nearest lights u v n d);
      blend-within = λ lights e. blend-within lights (fit_facts lights e);
      blend-whole = λ lights e. blend-whole lights (fit_facts lights e);
      blend-none = λ lights e. blend-none lights (fit_facts lights e);
      blend-same = λ lights u v n d n' d' some some' part part' cross. blend-same lights u v (record { cross = cross; some = some; some' = some'; part = part; part' = part' });
      codes-fit = codes-fit;
      blend-codes = blend-codes;
      blend-even = λ lights a b e. blend-even lights a b (fit_facts lights e);
      code-within = code-within;
      nearest-is = rounding.nearest-is;
      nearest_only = rounding.nearest_unique;
      widest-codes = widest-codes;
      span_codes = span_codes;
    }

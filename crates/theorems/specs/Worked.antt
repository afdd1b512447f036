-- The worked strokes and lists at the end of docs/RULES.md: each row of the table, and each sentence below it, is a field.
use Rattle.std.specs.Prelude.{Ok, Bool, true, false, List, [], ◌∷◌, ◌++◌, ◌≡◌, ℕ, ◌+◌, ◌*◌, ◌-◌, ◌≤◌, ◌<◌, ℤ, pos, negsuc, length, get_or, replicate}
use Rattle.limits.specs.Limits.{shape_refusal, basis_refusal}
use Rattle.shapes.specs.declared.Shape.{Shape}
use Rattle.shapes.specs.declared.Shape.TheVariants.{Line as line, Disc as disc, Triangle as triangle}
use Rattle.chords.specs.Circle.{height_of}
use Rattle.coverage.specs.Coverage.{drawn_n, drawn_d}
use Rattle.lights.specs.Lights.{light_of, fit}
use Rattle.blending.specs.Blend.{blend}
use Rattle.lights.specs.Codes.{codes}
use Rattle.format.specs.Format.{basis_of, header_bytes}
use Rattle.format.specs.declared.Header.{Header}
use Rattle.lists.specs.List.{checked_without_page}
use Rattle.drawing.specs.Claim.{Claim}
use Rattle.drawing.specs.Outcome.{Outcome}

-- a shape has n over d at pixel (x, y)
abbrev pub Has : Shape → ℤ → ℤ → ℕ → ℕ → Type 0
Has s x y n d = ◌≡◌ {A = ℕ × ℕ} (drawn_n s x y, drawn_d s) (n, d)

-- a line from (0, 0) to (x, y), exact or approximate
abbrev pub line_to : Bool → ℕ → ℕ → Shape
line_to exact x y = line (record { exact = exact; x0 = pos 0; y0 = pos 0; x1 = pos x; y1 = pos y })

-- a disc around (0, 0)
abbrev pub disc_of : ℕ → Shape
disc_of R = disc (record { x = pos 0; y = pos 0; radius = R; big = false })

abbrev pub cornered : Shape
cornered = triangle (record { x0 = pos 0; y0 = pos 0; x1 = pos 4; y1 = pos 1; x2 = pos 1; y2 = pos 3 })

-- a header, and the end record behind it
abbrev pub alone : Header → List ℕ
alone d = header_bytes d ++ 0 ∷ []

-- 49 4E 4B 01 00 04 00 03 00 00 03 01 00 01 00 03 00 02 00 00: one exact line from (1,1) to (3,2) on a black page of 4 by 3
abbrev pub printed : List ℕ
printed = 73 ∷ 78 ∷ 75 ∷ 1 ∷ 0 ∷ 4 ∷ 0 ∷ 3 ∷ 0 ∷ 0 ∷ 3 ∷ 1 ∷ 0 ∷ 1 ∷ 0 ∷ 3 ∷ 0 ∷ 2 ∷ 0 ∷ 0 ∷ []

pub record Worked : Type 0 where
  -- exact line (0,0) to (2,1): column 0: 12/16 in row 0, 4/16 in row −1; column 1: 4/16 in row 1, 12/16 in row 0
  pub exact_2_1 :
      Has (line_to true 2 1) (pos 0) (pos 0) 12 16
      × Has (line_to true 2 1) (pos 0) (negsuc 0) 4 16
      × Has (line_to true 2 1) (pos 1) (pos 1) 4 16
      × Has (line_to true 2 1) (pos 1) (pos 0) 12 16
  -- exact line (0,0) to (1,1): 1/8, 6/8, 1/8 in rows 1, 0, −1
  pub exact_1_1 :
      Has (line_to true 1 1) (pos 0) (pos 1) 1 8
      × Has (line_to true 1 1) (pos 0) (pos 0) 6 8
      × Has (line_to true 1 1) (pos 0) (negsuc 0) 1 8
  -- approximate line (0,0) to (1,1): 1/4, 1/2, 1/4
  pub approximate_1_1 :
      Has (line_to false 1 1) (pos 0) (pos 1) 1 4
      × Has (line_to false 1 1) (pos 0) (pos 0) 2 4
      × Has (line_to false 1 1) (pos 0) (negsuc 0) 1 4
  -- exact line (0,0) to (3,2): column 0: 1/48, 38/48, 9/48 from the highest row down; column 2: 9/48, 38/48, 1/48
  pub exact_3_2 :
      Has (line_to true 3 2) (pos 0) (pos 1) 1 48
      × Has (line_to true 3 2) (pos 0) (pos 0) 38 48
      × Has (line_to true 3 2) (pos 0) (negsuc 0) 9 48
      × Has (line_to true 3 2) (pos 2) (pos 2) 9 48
      × Has (line_to true 3 2) (pos 2) (pos 1) 38 48
      × Has (line_to true 3 2) (pos 2) (pos 0) 1 48
  -- disc of radius 1: pixel (0,0): 256/512
  pub disc_1 : Has (disc_of 1) (pos 0) (pos 0) 256 512
  -- disc of radius 2: Y(1) = 443; pixel (0,1): 443/512; pixel (1,1): 187/512
  pub disc_2 : (height_of 2 1 ≡ 443) × Has (disc_of 2) (pos 0) (pos 1) 443 512 × Has (disc_of 2) (pos 1) (pos 1) 187 512
  -- disc of radius 5: pixel (3,3): 256/512
  pub disc_5 : Has (disc_of 5) (pos 3) (pos 3) 256 512
  -- discs of radius 257 and 273: a height is rounded up to a row line that the circle does not reach, and down to one that it passes (R5.1)
  pub row_lines :
      (257 * 257 - 1 * 1 < 257 * 257)
      × (height_of 257 1 ≡ 256 * 257)
      × Has (disc_of 257) (pos 0) (pos 256) 512 512
      × (268 * 268 < 273 * 273 - 52 * 52)
      × (height_of 273 52 ≡ 256 * 268)
      × Has (disc_of 273) (pos 52) (pos 268) 0 512
  -- triangle (0,0), (4,1), (1,3): pixel (0,0): 408/576; pixel (2,1): 528/576; pixel (3,2): 0/576
  pub triangle_corners : Has cornered (pos 0) (pos 0) 408 576 × Has cornered (pos 2) (pos 1) 528 576 × Has cornered (pos 3) (pos 2) 0 576
  -- with lights equal to codes half of 255 on 0, or of 0 on 255, is 128
  pub half_codes : (blend codes 0 255 1 2 ≡ 128) × (blend codes 255 0 1 2 ≡ 128)
  -- with L(k) = k² + k it is 180
  pub half_squares : (lights : List ℕ) → ((k : ℕ) → k ≤ 255 → light_of lights k ≡ k * k + k) → (blend lights 0 255 1 2 ≡ 180) × (blend lights 255 0 1 2 ≡ 180)
  -- a radius of 1,023 is drawn and 1,024 refused; a coordinate of 4,095 is drawn and 4,096 refused
  pub radius-most : (shape_refusal (disc_of 1023) ≡ 0) × (shape_refusal (disc_of 1024) ≡ 33)
  pub coordinate_most : (shape_refusal (line_to true 4095 0) ≡ 0) × (shape_refusal (line_to true 4096 0) ≡ 7)
  -- a header and an end record alone have a ceiling of 0
  pub alone-accepted : (d : Header) → basis_refusal (basis_of d) ≡ 0 → checked_without_page (alone d) ≡ Ok (record { header = d; ceiling = 0 })
  -- and give the background and eight counts of 0
  pub alone-drawn : (lights l : List ℕ) (d : Header) (r : Outcome) (m : List ℕ) → basis_refusal (basis_of d) ≡ 0 → d.w * d.h ≤ length l → fit lights ≡ true
      → Claim lights (alone d) l r m → (r.touched ≡ replicate 8 0) × ((x y : ℕ) → x < d.w → y < d.h → get_or m (y * d.w + x) 0 ≡ d.background)
  -- the line of the printed list has l = 2, and so its ceiling is 6
  pub printed-ceiling : checked_without_page printed ≡ Ok (record { header = record { version = 1; w = 4; h = 3; background = 0 }; ceiling = 6 })

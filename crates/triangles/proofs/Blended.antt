-- A stretch of a row that is blended pixel by pixel.
use Rattle.std.proofs.Common.{◌≡◌, List, ℕ, ◌+◌, ◌*◌, ◌≤◌, ◌<◌, length, get_or, arith}
use Rattle.std.proofs.Math.ListN.{set}
use Rattle.std.proofs.Math.Nat.{mul-le-mul}
use Rattle.numbers.specs.inner.Offset.{origin}
use Rattle.page.specs.inner.Paint.{dot, touch}
use Rattle.page.specs.declared.View.{View}
use Rattle.page.proofs.Clip.{clip_zero}
use Rattle.page.proofs.Paint.{row-end}
use Rattle.page.proofs.Drawn.{drawn-none, drawn-next}
use Rattle.triangles.specs.inner.Row.{RowDrawn, Stretch, Gives}

-- a column's byte lies on the page
pub byte_in : {view : View} {size y from end x : ℕ} → Stretch view size y from end → x < end → (y * view.w + x < size) × (x ≤ 1024) × (y * view.w + x ≤ 1048576)
byte_in {view} {y = y} s h =
    let l = s.lawful in
    let r = row-end y view.h view.w s.row in
    (omega (arith, r, l.room, s.last), omega (arith, s.last, l.w-most), omega (arith, r, s.last, mul-le-mul l.h-most l.w-most))

-- columns from to before x of row y are blended in an ink by what `post` says of each offset; x is not past end
pub record BlendedTo (view : View) (ink : ℕ → ℕ → ℕ) (post : ℕ → ℕ → Type 0) (y from end : ℕ) (page₀ page : List ℕ) (touched x : ℕ) : Type 0 where
  pub least : from ≤ x
  pub most : x ≤ end
  pub few : touched ≤ x
  pub drawn : (n : ℕ → ℕ) → Gives post n → RowDrawn view ink n y from x page₀ page touched

module _ {view : View} {ink : ℕ → ℕ → ℕ} {post : ℕ → ℕ → Type 0} {y from end : ℕ} {page₀ : List ℕ} (s : Stretch view (length page₀) y from end) where
  pub blended_start : BlendedTo view ink post y from end page₀ page₀ 0 from
  blended_start =
      record {
        least = omega arith;
        most = s.order;
        few = omega arith;
        drawn = λ n _.
            drawn-none view.w view.h ink _ page₀ (clip_zero from y from (y + 1) (λ x _. n (x + origin)) (λ x z i. absurd (omega arith)));
      }

  pub blended_next : {page page' : List ℕ} {touched x k t : ℕ} → BlendedTo view ink post y from end page₀ page touched x → x < end
      → post (x + origin) k
      → page' ≡ set page (y * view.w + x) (dot ink k (get_or page (y * view.w + x) 0))
      → t ≡ touch k
      → BlendedTo view ink post y from end page₀ page' (touched + t) (x + 1)
  blended_next {x = x} {k} b h p ep et =
      let i = byte_in s h in
      record {
        least = omega (arith, b.least);
        most = omega arith;
        few = omega (arith, b.few);
        drawn = λ n g.
            let e : k ≡ n (x + origin) = g (x + origin) k (omega (arith, i.1)) p in
            rw (ep, et, e)
            (drawn-next (λ x _. n (x + origin)) from x y b.least (omega (arith, s.last)) s.row s.lawful.room (b.drawn n g));
      }

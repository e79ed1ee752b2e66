-- A call at two `&mut`s, and what it leaves behind each.
use Rattle.std.specs.Prelude.{◌≡◌}
use denote.Ref.{MutBor}
use denote.Param.Members.{Once}

pub record LeavesBoth {F S T R : Type 0}
    (g : Once F (MutBor S × (MutBor T × Unit {0})) (R × (MutBor S × (MutBor T × Unit {0}))))
    (f : F) (x : S) (y : T) (r : R) (x' : S) (y' : T) : Type 0 where
  pub first : MutBor S
  pub second : MutBor T
  pub shows : (first.now ≡ x) × (second.now ≡ y)
  pub left : MutBor S
  pub right : MutBor T
  pub met : g.post f (first, (second, tt)) (r, (left, (right, tt)))
  pub leaves : (left.now ≡ x') × (right.now ≡ y')

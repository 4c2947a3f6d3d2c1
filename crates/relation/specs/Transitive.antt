-- The transitive closure of a relation on any type.

-- y is reached from x in one or more steps
pub data Plus {A : Type 0} (R : A → A → Type 0) : A → A → Type 0 where
  one : {x y : A} → R x y → Plus R x y
  more : {x y z : A} → R x y → Plus R y z → Plus R x z

-- a ring: something is reached from itself
abbrev pub Ring : {A : Type 0} → (A → A → Type 0) → Type 0
Ring {A} R = (x : A) × Plus R x x

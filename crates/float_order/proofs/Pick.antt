-- A choice by a test whose answer is known.
use mathlib.Core.Path.{◌≡◌}
use mathlib.Core.Bool.{Bool, true, false, cond}

pub chosen : {A : Type 0} (b : Bool) (x y : A) → b ≡ true → x ≡ cond b x y
chosen b x y e = rw e

pub other : {A : Type 0} (b : Bool) (x y : A) → b ≡ false → y ≡ cond b x y
other b x y e = rw e

-- What the code keeps of the root's dynamic arguments: none, the one that there is, or more.
use Rattle.std.specs.Prelude.{ℕ, List, [], ◌∷◌}
use Rattle.closing.specs.declared.Dynamics.{Dynamics}
use Rattle.closing.specs.declared.Dynamics.TheVariants.{Nothing, One, More}

-- of a list of them
abbrev pub summary : List ℕ → Dynamics
summary [] = Nothing
summary (r ∷ []) = One r
summary (r ∷ q ∷ rs) = More

-- of those that are left, where these were met
abbrev pub resume : Dynamics → List ℕ → Dynamics
resume Nothing rs = summary rs
resume (One r) [] = One r
resume (One r) (q ∷ rs) = More
resume More rs = More

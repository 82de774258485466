-- Why a file can't be read, in words.
use Rattle.std.specs.Prelude.{ℕ, List, codes}
use Rattle.gw_system.specs.declared.obstacle.Obstacle.{Obstacle}
use Rattle.gw_system.specs.declared.obstacle.Obstacle.TheVariants as obstacle

-- why a file can't be read
abbrev pub obstacle_words : Obstacle → List ℕ
obstacle_words obstacle.Absent = codes "no such file"
obstacle_words obstacle.NotPermitted = codes "permission denied"
obstacle_words obstacle.Folder = codes "is a directory"
obstacle_words obstacle.Changed = codes "it isn't the text that was checked"
obstacle_words obstacle.Other = codes "it can't be read"

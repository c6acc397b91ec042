-- What the calls by which a file is replaced do to the files of a disk, where these are known.
-- This project's own.
use Rattle.std.specs.Prelude.{◌≡◌, ◌≢◌, ◌≤◌, ◌<◌, ⊤, ℕ, List, ◌++◌, Option, Some, None, Result, Ok, Err, codes, decimal}
use Rattle.streams.specs.Files.{Replaces}
use Rattle.streams.specs.declared.replacing.StageFault.{StageFault}
use Rattle.streams.specs.declared.replacing.StageFault.TheVariants.{Taken, Unmade, Unfilled}

-- failures rise where the device failed, and stay where it did not
abbrev pub CountsStage : {T : Type 0} → ℕ → ℕ → Result T StageFault → Type 0
CountsStage before now (Ok x) = now ≡ before
CountsStage before now (Err Taken) = now ≡ before
CountsStage before now (Err Unmade) = before < now
CountsStage before now (Err Unfilled) = before < now

-- failures rise where the call failed, and stay where it did not
abbrev pub CountsCall : {T E : Type 0} → ℕ → ℕ → Result T E → Type 0
CountsCall before now (Ok x) = now ≡ before
CountsCall before now (Err e) = before < now

-- a name for a file beside the file of this name
abbrev pub name_beside : List ℕ → ℕ → List ℕ
name_beside name number = name ++ codes "." ++ decimal number ++ codes ".new"

-- each file but the one of this name is as it was
abbrev pub Spares : Option (List ℕ → Option (List ℕ)) → Option (List ℕ → Option (List ℕ)) → List ℕ → Type 0
Spares None after name = ⊤
Spares (Some before) None name = ⊥
Spares (Some before) (Some after) name = (other : List ℕ) → other ≢ name → after other ≡ before other

-- there was no file of this name
abbrev pub IsFree : Option (List ℕ → Option (List ℕ)) → List ℕ → Type 0
IsFree None name = ⊤
IsFree (Some files) name = files name ≡ None

-- there was a file of this name
abbrev pub IsTaken : Option (List ℕ → Option (List ℕ)) → List ℕ → Type 0
IsTaken None name = ⊤
IsTaken (Some files) name = files name ≢ None

-- there was a file of each of the first n names beside this one
abbrev pub AreTaken : Option (List ℕ → Option (List ℕ)) → List ℕ → ℕ → Type 0
AreTaken files name n = (k : ℕ) → 1 ≤ k → k ≤ n → IsTaken files (name_beside name k)

-- there was no file of this name, now there is one of these bytes, and each other is as it was
abbrev pub Makes : Option (List ℕ → Option (List ℕ)) → Option (List ℕ → Option (List ℕ)) → List ℕ
    → List ℕ → Type 0
Makes before after name bytes = IsFree before name × Replaces before after name bytes

-- the file of the one name has the other, in place of what had it, and each other is as it was
abbrev pub Moves : Option (List ℕ → Option (List ℕ)) → Option (List ℕ → Option (List ℕ)) → List ℕ
    → List ℕ → Type 0
Moves None after from to = ⊤
Moves (Some before) None from to = ⊥
Moves (Some before) (Some after) from to = (after to ≡ before from) × (from ≢ to → after from ≡ None)
    × ((other : List ℕ) → other ≢ from → other ≢ to → after other ≡ before other)

-- the file of this name is gone, and each other is as it was
abbrev pub Loses : Option (List ℕ → Option (List ℕ)) → Option (List ℕ → Option (List ℕ)) → List ℕ → Type 0
Loses before after name = IsFree after name × Spares before after name

-- the file of this name is as it was, and so is each other that was there
abbrev pub Leaves : Option (List ℕ → Option (List ℕ)) → Option (List ℕ → Option (List ℕ)) → List ℕ → Type 0
Leaves None after name = ⊤
Leaves (Some before) None name = ⊥
Leaves (Some before) (Some after) name = (after name ≡ before name)
    × ((other : List ℕ) → before other ≢ None → after other ≡ before other)

-- a new file is made of the bytes; or all are as they were, one of the name among them or not; or a part
-- of a new file may be there
abbrev pub Stages : {T : Type 0} → Option (List ℕ → Option (List ℕ))
    → Option (List ℕ → Option (List ℕ)) → Result T StageFault
    → List ℕ → List ℕ → Type 0
Stages before after (Ok x) name bytes = Makes before after name bytes
Stages before after (Err Taken) name bytes = IsTaken before name × (after ≡ before)
Stages before after (Err Unmade) name bytes = after ≡ before
Stages before after (Err Unfilled) name bytes = IsFree before name × Spares before after name

-- the file has the other name, or all are as they were
abbrev pub Renames : {T E : Type 0} → Option (List ℕ → Option (List ℕ))
    → Option (List ℕ → Option (List ℕ)) → Result T E → List ℕ → List ℕ → Type 0
Renames before after (Ok x) from to = Moves before after from to
Renames before after (Err e) from to = after ≡ before

-- the file is gone, or all are as they were
abbrev pub Removes : {T E : Type 0} → Option (List ℕ → Option (List ℕ))
    → Option (List ℕ → Option (List ℕ)) → Result T E → List ℕ → Type 0
Removes before after (Ok x) name = Loses before after name
Removes before after (Err e) name = after ≡ before

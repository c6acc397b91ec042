-- What is known of named files, and what a call does to them. This project's own.
use Rattle.std.specs.Prelude.{◌≡◌, ◌≢◌, ◌<◌, ⊤, ℕ, List, Option, Some, None, Result, Ok, Err, length, take}
use Rattle.streams.specs.declared.file_fault.FileFault.{FileFault}
use Rattle.streams.specs.declared.file_fault.FileFault.TheVariants.{Device, Memory}

-- the file of this name holds these bytes, where the files are known
abbrev pub Holds : Option (List ℕ → Option (List ℕ)) → List ℕ → List ℕ → Type 0
Holds None name bytes = ⊤
Holds (Some files) name bytes = files name ≡ Some bytes

-- the file of this name begins with these bytes, which are all that it holds or so many, where the
-- files are known
abbrev pub BeginsWith : Option (List ℕ → Option (List ℕ)) → List ℕ → ℕ → List ℕ → Type 0
BeginsWith None name many bytes = ⊤
BeginsWith (Some files) name many bytes =
    (all : List ℕ) × (files name ≡ Some all) × (bytes ≡ take many all)

-- the file of this name holds more than so many bytes, where the files are known
abbrev pub HoldsMore : Option (List ℕ → Option (List ℕ)) → List ℕ → ℕ → Type 0
HoldsMore None name most = ⊤
HoldsMore (Some files) name most =
    (all : List ℕ) × (files name ≡ Some all) × (most < length all)

-- what the file of this name holds, and nothing where there is none or it isn't known
abbrev pub file_of : Option (List ℕ → Option (List ℕ)) → List ℕ → Option (List ℕ)
file_of None name = None
file_of (Some files) name = files name

-- the bytes stand in place of that one file's, and each other file is as it was, where the files
-- are known
abbrev pub Replaces : Option (List ℕ → Option (List ℕ)) → Option (List ℕ → Option (List ℕ)) → List ℕ
    → List ℕ → Type 0
Replaces None after name bytes = ⊤
Replaces (Some before) None name bytes = ⊥
Replaces (Some before) (Some after) name bytes =
    (after name ≡ Some bytes) × ((other : List ℕ) → other ≢ name → after other ≡ before other)

-- failures rise where the device failed, and stay where it did not
abbrev pub Counts : {T : Type 0} → ℕ → ℕ → Result T FileFault → Type 0
Counts before now (Ok x) = now ≡ before
Counts before now (Err Device) = before < now
Counts before now (Err Memory) = now ≡ before

-- a call that succeeds puts the bytes in place of the file's, and one that fails leaves every file
-- as it was
abbrev pub Writes : {T : Type 0} → Option (List ℕ → Option (List ℕ))
    → Option (List ℕ → Option (List ℕ)) → Result T FileFault
    → List ℕ → List ℕ → Type 0
Writes before after (Ok x) name bytes = Replaces before after name bytes
Writes before after (Err e) name bytes = after ≡ before

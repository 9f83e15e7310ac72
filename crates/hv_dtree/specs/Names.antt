-- Names in a device tree (Devicetree Specification 0.4, sections 2.2.1 and 2.2.4.1).
use Rattle.std.specs.Prelude.{◌≡◌, ◌⊎◌, ℕ, ◌<◌, List, [], ◌∷◌, ◌++◌, length, codes}
use Rattle.std.specs.List.{All, Contains}
use Rattle.std.specs.Char.{IsAsciiAlphanumeric}

-- a letter, a digit or one of `,._+-`
abbrev pub IsNodeByte : ℕ → Type 0
IsNodeByte b = IsAsciiAlphanumeric b ⊎ Contains (codes ",._+-") b

-- such a byte, `?` or `#`
abbrev pub IsPropByte : ℕ → Type 0
IsPropByte b = IsAsciiAlphanumeric b ⊎ Contains (codes ",._+-?#") b

-- 1 to 31 such bytes
pub record IsPropName (name : List ℕ) : Type 0 where
  pub some : 0 < length name
  pub short : length name < 32
  pub each : All IsPropByte name

-- an at sign and one or more bytes of a node's name
pub record IsUnitAddress (text : List ℕ) : Type 0 where
  pub unit : List ℕ
  pub some : 0 < length unit
  pub each : All IsNodeByte unit
  pub parts : text ≡ 64 ∷ unit

-- 1 to 31 bytes, and perhaps a unit address
pub record IsNodeName (name : List ℕ) : Type 0 where
  pub base : List ℕ
  pub rest : List ℕ
  pub some : 0 < length base
  pub short : length base < 32
  pub each : All IsNodeByte base
  pub unit : (rest ≡ []) ⊎ IsUnitAddress rest
  pub parts : name ≡ base ++ rest

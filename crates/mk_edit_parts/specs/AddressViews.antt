-- What contracts see of the address of an edit, and of the edits by their kind.
-- Told in docs/ARCHITECTURE.md, "An edit's way, from Edit to moved lines".
use Rattle.std.specs.Prelude.{Option, Some, None}
use Rattle.mk_edit_language.specs.Edits as edits
use Rattle.mk_edit_language.specs.Addresses as addresses
use Rattle.mk_edit_language.specs.declared.refusal.Field.{Field}
use Rattle.mk_edit_language.specs.declared.refusal.Refusal.{Refusal}
use Rattle.mk_edit_language.specs.declared.refusal.Refusal.TheVariants.{BadArgument}
use Rattle.mk_edit_parts.specs.declared.address.Address.{Address}
use Rattle.mk_edit_parts.specs.declared.address.Address.TheVariants as address

-- an address; its texts are seen as bytes
abbrev pub address_view : Address → addresses.Address
address_view (address.Variable nth name) = addresses.Variable nth name.now
address_view (address.LastVariable name) = addresses.LastVariable name.now
address_view (address.Valued nth name value) = addresses.Valued nth name.now value.now
address_view (address.Commented nth name) = addresses.Commented nth name.now
address_view (address.Rule nth target) = addresses.Rule nth target.now

-- the address of an edit, if it has one
abbrev pub address_seen : Option Address → Option addresses.Address
address_seen None = None
address_seen (Some a) = Some (address_view a)

-- the refusal for a field that fails its test
abbrev pub field_refusal : Option Field → Option Refusal
field_refusal None = None
field_refusal (Some f) = Some (BadArgument f)

-- ---- edits by their kind

-- an edit that takes an assignment out
abbrev pub IsRemoveAssign : edits.Edit → Type 0
IsRemoveAssign (edits.RemoveLines (edits.OfAssign nth n)) = Unit {0}
IsRemoveAssign e = ⊥

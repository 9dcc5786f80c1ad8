use Rattle.std.proofs.Common.{refl}
use Rattle.mk_script.proofs.on_written.CommandTexts.{field-put}
use Rattle.mk_script.proofs.written_block.CommandText.with_field.Goals as goal

pub returns : goal.returns
returns g c = field-put c.args.block.now c.args.self.line.items c.args.self.below.items c.push_field.new.line.items _ c.requires c.in_ok-push_field.ensures refl

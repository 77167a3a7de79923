use Rattle.cm_wire.proofs.Forms.{u8_takes, u32_takes, u64_takes, tag_takes, bytes_takes, text_takes, digest_takes}
use Rattle.cm_wire.proofs.Sequences.{fields_take}
use Rattle.cm_wire.proofs.laws.nothing_else_is_read.Goals as goal

pub returns : goal.returns
returns c = record {
  byte = u8_takes;
  four_bytes = u32_takes;
  eight_bytes = u64_takes;
  tag = tag_takes;
  bytes = bytes_takes;
  text = text_takes;
  digest = λ bs u v _. digest_takes bs u v;
  fields = λ shapes fields u v. fields_take shapes u (fields, v);
}

use Rattle.cm_wire.proofs.Forms.{u8_again, u32_again, u64_again, tag_again, bytes_again, text_again, digest_again}
use Rattle.cm_wire.proofs.Sequences.{fields_again}
use Rattle.cm_wire.proofs.laws.reading_gives_back_what_was_put.Goals as goal

pub returns : goal.returns
returns c = record {
  byte = λ n u v _ passes. u8_again n u v passes;
  four_bytes = u32_again;
  eight_bytes = u64_again;
  tag = tag_again;
  bytes = bytes_again;
  text = text_again;
  digest = digest_again;
  fields = fields_again;
}

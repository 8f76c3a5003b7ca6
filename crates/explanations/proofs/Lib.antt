pub mod OneMoreDeclaration

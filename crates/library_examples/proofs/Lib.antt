pub mod EveryCrash
